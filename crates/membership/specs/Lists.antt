-- What lists of users, clients and groups say.
use Rattle.std.specs.Prelude.{ℕ, List, [], ◌∷◌}
use Rattle.std.specs.FinMap as finite
use Rattle.std.specs.FinSet as set
use Rattle.membership.specs.declared.lists.GroupLists.{GroupLists}
use Rattle.membership.specs.declared.lists.GroupRow.{GroupRow}
use Rattle.membership.specs.Members.{Members, GroupsByName, Membership}

-- the members of these names: users, clients and groups
abbrev pub members_of : List (List ℕ) → List (List ℕ) → List (List ℕ) → Members
members_of users clients groups = record { users = set.from_list users; clients = set.from_list clients; groups = set.from_list groups }

-- the members that a row lists
abbrev pub members_in : GroupRow → Members
members_in row = members_of row.users row.clients row.groups

-- groups, and then those of these rows: a row takes the place of an earlier one of its name
abbrev pub with_rows : GroupsByName → List GroupRow → GroupsByName
with_rows groups [] = groups
with_rows groups (row ∷ rows) = with_rows (finite.insert groups row.name (members_in row)) rows

-- what the lists say
abbrev pub membership_in : GroupLists → Membership
membership_in lists = record { users = set.from_list lists.users; clients = set.from_list lists.clients; groups = with_rows finite.empty lists.groups }
