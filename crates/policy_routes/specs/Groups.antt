-- The routes of policy groups and what they assign.
use Rattle.std.specs.Prelude.{ℕ, Bool, false, not, ◌&&◌, cond, List, [], ◌∷◌, ◌++◌, map, codes, Option, Some, None, is_some, option_and_then, unwrap_or}
use Rattle.std.specs.FinMap as finite
use Rattle.access_lists.specs.declared.perm.Perm.TheVariants as permission
use Rattle.access_lists.specs.declared.starting.Container.TheVariants as container
use Rattle.cookbook_meta.specs.Stored.{with_pairs}
use Rattle.doc_tree.specs.Doc.{Doc, words, dict, pairs_of}
use Rattle.doc_tree.specs.Name.{is_name}
use Rattle.doc_tree.specs.Tree.{doc_of}
use Rattle.doc_tree.specs.Written.{text}
use Rattle.doc_tree.specs.declared.kind.Kind.TheVariants as kinds
use Rattle.object_store.specs.Objects.{key}
use Rattle.policy_locks.specs.declared.lock.Lock.{Lock}
use Rattle.std.specs.Prelude.{bytes_eq}
use Rattle.org_core.specs.Contexts.{Context}
use Rattle.org_core.specs.Creating.{created_list}
use Rattle.org_core.specs.Outcomes.{Decided, does_by, makes_or_shows, reads, shows, tells}
use Rattle.org_requests.specs.Refusals.{first_some, refuses}
use Rattle.org_requests.specs.Replies.{one_key, org_uri, shown}
use Rattle.org_requests.specs.declared.replies.Reply.{Reply}
use Rattle.org_core.specs.States.{shelved_of}
use Rattle.org_core.specs.declared.moves.Move.{Move}
use Rattle.org_core.specs.declared.moves.Move.TheVariants as move
use Rattle.org_core.specs.declared.needs.Need.{Need}
use Rattle.org_core.specs.declared.needs.Need.TheVariants.{Listed}
use Rattle.org_requests.specs.declared.refusals.Refusal.{Refusal}
use Rattle.org_requests.specs.declared.refusals.Refusal.TheVariants.{RevisionDiffers}
use Rattle.org_shelves.specs.Conditions.{assigned_in}
use Rattle.org_shelves.specs.Shelved.{Assigned, PolicyGroups}
use Rattle.org_shelves.specs.declared.shelf_moves.ShelfMove.TheVariants as shelf
use Rattle.policy_routes.specs.Locks.{artifact_refusal}
use Rattle.policy_routes.specs.Policies.{lock_found, revision_at, revision_moves, revision_need}

-- the policy groups of an organisation
abbrev pub groups_of : Context → PolicyGroups
groups_of context = (shelved_of context.state).groups

-- the policy group of this name, by what it assigns
abbrev pub group_at : Context → List ℕ → Option Assigned
group_at context group = finite.get (groups_of context) group

-- there is one
abbrev pub has_group : Context → List ℕ → Bool
has_group context group = is_some (group_at context group)

-- what a group assigns: nothing where there is no group
abbrev pub assigned_by : Context → List ℕ → Assigned
assigned_by context group = unwrap_or (group_at context group) finite.empty

-- there is no group of this name, or it has no name's form
abbrev pub lacks_group : Context → List ℕ → Bool
lacks_group context group = not (is_name group && has_group context group)

-- the lock that a group assigns of a policy
abbrev pub assigned_lock : Context → List ℕ → List ℕ → Option Doc
assigned_lock context group policy = option_and_then (revision_at context policy) (assigned_in (groups_of context) group policy)

-- the group assigns no such policy, or one of the names has no name's form
abbrev pub lacks_assignment : Context → List ℕ → List ℕ → Bool
lacks_assignment context group policy = not (is_name group && (is_name policy && is_some (assigned_lock context group policy)))

-- a revision in a reply
abbrev pub revision_doc : List ℕ → Doc
revision_doc revision = one_key (codes "revision_id") (words revision)

-- an assignment in a reply: the policy with its revision
abbrev pub assigned_pair : List ℕ × List ℕ → List ℕ × Doc
assigned_pair entry = (entry.0, revision_doc entry.1)

-- what is assigned, in a reply
abbrev pub assigned_doc : Assigned → Doc
assigned_doc assigned = dict (pairs_of (with_pairs (map assigned_pair (finite.entries assigned)) []))

-- the path of a policy group
abbrev pub group_path : List ℕ → List ℕ → List ℕ
group_path org group = (org_uri org ++ codes "/policy_groups/") ++ group

-- a policy group: what it assigns, and its path
abbrev pub group_doc : List ℕ → List ℕ → Assigned → Doc
group_doc org group assigned = dict (pairs_of ((codes "policies", assigned_doc assigned) ∷ (codes "uri", words (group_path org group)) ∷ []))

-- a group in a listing, by its name
abbrev pub group_pair : List ℕ → List ℕ × Assigned → List ℕ × Doc
group_pair org entry = (entry.0, group_doc org entry.0 entry.1)

-- each group
abbrev pub group_listing : List ℕ → PolicyGroups → Doc
group_listing org groups = dict (pairs_of (with_pairs (map (group_pair org) (finite.entries groups)) []))

-- the groups are listed: 200
abbrev pub groups_listed : Context → Decided
groups_listed context = tells (shows (group_listing context.org (groups_of context)))

-- 200 with a group, of which one that isn't there assigns nothing
abbrev pub group_reply : Context → List ℕ → Reply
group_reply context group = shown (group_doc context.org group (assigned_by context group))

-- a group is shown: 200
abbrev pub group_shown : Context → List ℕ → Decided
group_shown context group = tells (shows (group_doc context.org group (assigned_by context group)))

-- a group goes, with its list: 200 as it was shown. The revisions that it assigned stay
abbrev pub group_removed : Context → List ℕ → Decided
group_removed context group =
    does_by (shows (group_doc context.org group (assigned_by context group)))
    (move.OnShelves (shelf.TakeGroup group) ∷ move.TakeList (key kinds.PolicyGroup group) ∷ []) 0

-- 200 with a lock that was found
abbrev pub lock_reply : Option Doc → Reply
lock_reply found = shown (lock_found found)

-- an assignment is shown: 200 with its lock
abbrev pub assignment_shown : Context → List ℕ → List ℕ → Decided
assignment_shown context group policy = reads (shows (lock_found (assigned_lock context group policy)))

-- another lock is stored than this one
abbrev pub differs : Option Doc → Doc → Bool
differs None lock = false
differs (Some stored) lock = not (bytes_eq (text stored) (text lock))

-- the permission to assign in a group: to update it, or to create in the container where there is none of this name
abbrev pub group_need : Context → List ℕ → Need
group_need context group = cond (has_group context group) (Listed permission.Update (key kinds.PolicyGroup group)) (Listed permission.Create (key kinds.Container (codes "policy_groups")))

-- that permission, and then the one to put a revision of the policy
abbrev pub assigning_needs : Context → List ℕ → List ℕ → List Need
assigning_needs context group policy = group_need context group ∷ revision_need context policy ∷ []

-- why a lock isn't assigned: its revision is there with another content, or an artifact is missing
abbrev pub assigning_refusal : Context → List ℕ → Lock → Option Refusal
assigning_refusal context policy lock =
    first_some (
    refuses RevisionDiffers (differs (revision_at context policy lock.revision_id) (doc_of lock.whole))
    ∷ artifact_refusal context lock
    ∷ [])

-- a lock is stored where its revision isn't there
abbrev pub stored_first : Context → List ℕ → Lock → List Move
stored_first context policy lock = cond (is_some (revision_at context policy lock.revision_id)) [] (revision_moves context policy lock)

-- a group's access list comes with its first assignment
abbrev pub first_group_list : Context → List ℕ → List Move
first_group_list context group = cond (has_group context group) [] (move.PutList (key kinds.PolicyGroup group) (created_list container.PolicyGroups context) ∷ [])

-- a policy is assigned at this revision
abbrev pub assigning : Context → List ℕ → List ℕ → List ℕ → List Move
assigning context group policy revision = move.OnShelves (shelf.PutGroup group (finite.insert (assigned_by context group) policy revision)) ∷ first_group_list context group

-- a lock is assigned, and stored before where it isn't there: 201 where the policy had no assignment in the group, and else 200
abbrev pub assigned : Context → List ℕ → List ℕ → Lock → Decided
assigned context group policy lock =
    does_by (makes_or_shows (assigned_in (groups_of context) group policy) (doc_of lock.whole))
    (stored_first context policy lock ++ assigning context group policy lock.revision_id)
    (cond (is_some (revision_at context policy lock.revision_id)) 1 0)

-- an assignment goes: 200 with its lock. The revision stays, and so does the group
abbrev pub unassigned_from : Context → List ℕ → List ℕ → Decided
unassigned_from context group policy =
    does_by (shows (lock_found (assigned_lock context group policy)))
    (move.OnShelves (shelf.PutGroup group (finite.remove (assigned_by context group) policy)) ∷ []) 1
