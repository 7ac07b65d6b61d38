-- What one action of one resource is to do.
use Rattle.std.specs.Prelude.{ℕ, Bool, true, false, List, Option, Some, None, option_map, is_some, IsTrue}
use Rattle.host_tree.specs.declared.caps.Caps.{Caps}
use Rattle.host_acts.specs.Wants.{Want, Wanted, absent, file, directory, link}
use Rattle.resource_core.specs.declared.resources.Resource.{Resource}
use Rattle.resource_core.specs.declared.types.Action.{Action}
use Rattle.resource_core.specs.declared.types.Action.TheVariants.{Create, CreateIfMissing, Delete, Nothing}
use Rattle.resource_core.specs.declared.types.ResourceType.{ResourceType}
use Rattle.resource_core.specs.declared.types.ResourceType.TheVariants as kind

-- what is to be done at a path. A file or directory that is made has the content and mode that are given, and of one that stands what isn't given stays
pub data Work : Type 0 where
  make_file : (content : Option (List ℕ)) (mode : Option ℕ) (replaces_link : Bool) → Work
  make_missing_file : (content : Option (List ℕ)) (mode : Option ℕ) → Work
  remove_file : Work
  make_directory : (mode : Option ℕ) (recursive : Bool) → Work
  remove_directory : (recursive : Bool) → Work
  make_link : (to : List ℕ) → Work
  remove_link : Work

-- work at a path
pub record Task : Type 0 where
  pub path : List ℕ
  pub work : Work

-- the task of this work at this path
abbrev pub task_at : List ℕ → Work → Task
task_at path work = record { path = path; work = work }

-- what the work wants of its path
abbrev pub want_of : Work → Want
want_of (make_file content mode replaces_link) = file content mode
want_of (make_missing_file content mode) = file None None
want_of remove_file = absent
want_of (make_directory mode recursive) = directory mode
want_of (remove_directory recursive) = absent
want_of (make_link to) = link to
want_of remove_link = absent

-- what a task wants
abbrev pub wanted_by : Task → Wanted
wanted_by task = record { path = task.path; want = want_of task.work }

-- what is done to a file by an action
abbrev pub file_work : Resource → Action → Option Work
file_work r Create = Some (make_file r.content r.mode r.force_unlink)
file_work r CreateIfMissing = Some (make_missing_file r.content r.mode)
file_work r Delete = Some remove_file
file_work r Nothing = None

-- what is done to a directory by an action
abbrev pub directory_work : Resource → Action → Option Work
directory_work r Create = Some (make_directory r.mode r.recursive)
directory_work r CreateIfMissing = None
directory_work r Delete = Some (remove_directory r.recursive)
directory_work r Nothing = None

-- what is done to a link by an action
abbrev pub link_work : Resource → Action → Option Work
link_work r Create = option_map make_link r.to
link_work r CreateIfMissing = None
link_work r Delete = Some remove_link
link_work r Nothing = None

-- what is done to a resource of this type by an action
abbrev pub work_by : ResourceType → Resource → Action → Option Work
work_by kind.File r action = file_work r action
work_by kind.Directory r action = directory_work r action
work_by kind.Link r action = link_work r action

-- what an action of a resource is to do: nothing for `nothing`, an action that its type lacks, and a link to be made without its `to`
abbrev pub task : Resource → Action → Option Task
task r action = option_map (task_at r.path) (work_by r.kind r action)

-- whatever the one offers, the other offers too
pub record Offers (all some : Caps) : Type 0 where
  pub links : IsTrue some.links → IsTrue all.links
  pub modes : IsTrue some.modes → IsTrue all.modes

-- what work needs of a host: links for any work on a link, modes where a mode is given
abbrev pub needs_for : Work → Caps
needs_for (make_file content mode replaces_link) = record { links = false; modes = is_some mode }
needs_for (make_missing_file content mode) = record { links = false; modes = is_some mode }
needs_for remove_file = record { links = false; modes = false }
needs_for (make_directory mode recursive) = record { links = false; modes = is_some mode }
needs_for (remove_directory recursive) = record { links = false; modes = false }
needs_for (make_link to) = record { links = true; modes = false }
needs_for remove_link = record { links = true; modes = false }

-- the action does something
abbrev pub is_acting : Action → Bool
is_acting Create = true
is_acting CreateIfMissing = true
is_acting Delete = true
is_acting Nothing = false

-- what a resource of this type needs of a host where this action of it is to be done
abbrev pub needs_by : ResourceType → Resource → Action → Caps
needs_by kind.File r action = record { links = false; modes = is_some r.mode }
needs_by kind.Directory r action = record { links = false; modes = is_some r.mode }
needs_by kind.Link r action = record { links = is_acting action; modes = false }

-- what a resource needs of a host where this action of it is to be done: links for an action of a link other than `nothing`, modes where a file or directory states a mode, whatever the action
abbrev pub needs : Resource → Action → Caps
needs r action = needs_by r.kind r action
