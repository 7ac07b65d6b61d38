-- The run list of a role for an environment.
use Rattle.std.specs.Prelude.{ℕ, List, Option, option_map, bytes_eq, map, unwrap_or}
use Rattle.std.specs.Map.{lookup}
use Rattle.run_lists.specs.Stored.{Stored}
use Rattle.run_lists.specs.declared.by_name.NamedRunList.{NamedRunList}
use Rattle.run_lists.specs.declared.roles.RunLists.{RunLists}

-- an environment's name, with the run list for it
abbrev pub entry_of : NamedRunList → List ℕ × List Stored
entry_of named = (named.name, named.run_list)

-- the run list that is kept for an environment, if there is one
abbrev pub own_list : List NamedRunList → List ℕ → Option (List Stored)
own_list lists env = lookup (bytes_eq env) (map entry_of lists)

-- a role's run list for an environment: the one that it keeps for it where there is one, else its run list
abbrev pub list_for : List ℕ → RunLists → List Stored
list_for env lists = unwrap_or (own_list lists.env_run_lists env) lists.run_list

-- the run list for an environment of the role of this name, if there is one
abbrev pub run_list_in : List (List ℕ × RunLists) → List ℕ → List ℕ → Option (List Stored)
run_list_in roles env role = option_map (list_for env) (lookup (bytes_eq role) roles)
