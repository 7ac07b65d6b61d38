-- The groups with which an organisation starts.
use Rattle.std.specs.Prelude.{ℕ, Bool, List, [], ◌∷◌, codes}
use Rattle.std.specs.FinMap as finite
use Rattle.membership.specs.TextSets.{lists}
use Rattle.membership.specs.Members.{GroupsByName, Membership, no_members, nobody}
use Rattle.membership.specs.Changes.{with_groups}

-- their names
abbrev pub starting_groups : List (List ℕ)
starting_groups = codes "admins" ∷ codes "billing-admins" ∷ codes "clients" ∷ codes "users" ∷ []

-- whether a group is one of them
abbrev pub is_starting_group : List ℕ → Bool
is_starting_group name = lists starting_groups name

-- those groups, each without members
abbrev pub groups_at_start : GroupsByName
groups_at_start =
    finite.insert (finite.insert (finite.insert (finite.insert finite.empty (codes "admins") no_members) (codes "billing-admins") no_members) (codes "clients") no_members) (codes "users") no_members

-- what an organisation starts with: nobody, and those groups
abbrev pub starting : Membership
starting = with_groups groups_at_start nobody
