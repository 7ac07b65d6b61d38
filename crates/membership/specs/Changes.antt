-- Changes of what an organisation has.
use Rattle.std.specs.Prelude.{ℕ, List}
use Rattle.std.specs.Option.{option_map_or}
use Rattle.std.specs.FinMap as finite
use Rattle.std.specs.FinSet as set
use Rattle.membership.specs.declared.member_kind.MemberKind.{MemberKind}
use Rattle.membership.specs.declared.member_kind.MemberKind.TheVariants.{User, Client, Group}
use Rattle.membership.specs.MapValues.{map_values}
use Rattle.membership.specs.Members.{Members, GroupsByName, Membership}

-- a name joins the members of a kind
abbrev pub joined : MemberKind → List ℕ → Members → Members
joined User name members = record { users = set.insert members.users name; clients = members.clients; groups = members.groups }
joined Client name members = record { users = members.users; clients = set.insert members.clients name; groups = members.groups }
joined Group name members = record { users = members.users; clients = members.clients; groups = set.insert members.groups name }

-- a name leaves the members of a kind
abbrev pub left : MemberKind → List ℕ → Members → Members
left User name members = record { users = set.remove members.users name; clients = members.clients; groups = members.groups }
left Client name members = record { users = members.users; clients = set.remove members.clients name; groups = members.groups }
left Group name members = record { users = members.users; clients = members.clients; groups = set.remove members.groups name }

-- a name leaves the members of a kind in every group
abbrev pub left_all : MemberKind → List ℕ → GroupsByName → GroupsByName
left_all kind name groups = map_values (left kind name) groups

-- groups after a change of the one of this name, where it is there
abbrev pub changed : List ℕ → (Members → Members) → GroupsByName → GroupsByName
changed name change groups = option_map_or (λ members. finite.insert groups name (change members)) (finite.get groups name) groups

-- an organisation with one more user
abbrev pub with_user : List ℕ → Membership → Membership
with_user name m = record { users = set.insert m.users name; clients = m.clients; groups = m.groups }

-- and without a user
abbrev pub without_user : List ℕ → Membership → Membership
without_user name m = record { users = set.remove m.users name; clients = m.clients; groups = m.groups }

-- an organisation with one more client
abbrev pub with_client : List ℕ → Membership → Membership
with_client name m = record { users = m.users; clients = set.insert m.clients name; groups = m.groups }

-- and without a client
abbrev pub without_client : List ℕ → Membership → Membership
without_client name m = record { users = m.users; clients = set.remove m.clients name; groups = m.groups }

-- an organisation of other groups
abbrev pub with_groups : GroupsByName → Membership → Membership
with_groups groups m = record { users = m.users; clients = m.clients; groups = groups }
