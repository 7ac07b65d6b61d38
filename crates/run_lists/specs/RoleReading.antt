-- The role that a stored object is.
use Rattle.std.specs.Prelude.{ℕ, List, Option, None, option_map, option_and_then, codes}
use Rattle.doc_tree.specs.Doc.{Doc, words}
use Rattle.doc_tree.specs.Name.{is_name}
use Rattle.doc_tree.specs.Part.{part_at}
use Rattle.run_lists.specs.ByName.{kept_if, named_run_lists}
use Rattle.run_lists.specs.Reading.{run_list_of}
use Rattle.run_lists.specs.declared.reading.Allowed.TheVariants.{Items}
use Rattle.run_lists.specs.declared.roles.RunLists.{RunLists}
use Rattle.run_lists.specs.declared.roles.Role.{Role}

-- the Name that a document is
abbrev pub name_of : Doc → Option (List ℕ)
name_of (words text) = kept_if is_name text
name_of d = None

-- the run lists of a role's object
abbrev pub run_lists_of : Doc → Option RunLists
run_lists_of d =
    option_and_then (λ items. option_map (λ lists. record { run_list = items; env_run_lists = lists }) (option_and_then (named_run_lists Items) (part_at (codes "env_run_lists") d)))
    (option_and_then run_list_of (part_at (codes "run_list") d))

-- the role that an object is: its name, its run list and its run lists by environments, each of which is there
abbrev pub role_of : Doc → Option Role
role_of d =
    option_and_then (λ name. option_map (λ lists. record { name = name; run_lists = lists }) (run_lists_of d))
    (option_and_then name_of (part_at (codes "name") d))
