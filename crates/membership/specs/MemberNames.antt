-- The names of an organisation's users, clients and groups, and of a group's members.
use Rattle.std.specs.Prelude.{ℕ, List, [], Option, Some, None}
use Rattle.std.specs.FinMap as finite
use Rattle.std.specs.FinSet as set
use Rattle.membership.specs.declared.member_kind.MemberKind.{MemberKind}
use Rattle.membership.specs.declared.member_kind.MemberKind.TheVariants.{User, Client, Group}
use Rattle.membership.specs.TextSets.{Names, in_order}
use Rattle.membership.specs.Members.{Members, Membership}

-- the names in a set, in the order of their bytes
abbrev pub listed_names : Names → List (List ℕ)
listed_names names = in_order (set.items names)

-- the names of the organisation's users, of its clients or of its groups
abbrev pub names_in : MemberKind → Membership → List (List ℕ)
names_in User membership = listed_names membership.users
names_in Client membership = listed_names membership.clients
names_in Group membership = finite.keys membership.groups

-- the names of a group's users, of its clients or of the groups within it
abbrev pub names_of : MemberKind → Members → List (List ℕ)
names_of User members = listed_names members.users
names_of Client members = listed_names members.clients
names_of Group members = listed_names members.groups

-- the names of the members of a kind: none where there is no group
abbrev pub members_named : MemberKind → Option Members → List (List ℕ)
members_named kind None = []
members_named kind (Some members) = names_of kind members
