-- What is kept beside the room for more: room is the number of further names that fit without memory.
use Rattle.std.specs.Prelude.{◌≡◌, ◌≢◌, ℕ, nat_le, if◌then◌else◌, List, map, unwrap_or, refl}
use Rattle.std.specs.Coded.{Coded, code_by, coded×, coded_ℕ}
use Rattle.std.specs.FinMap as finite
use Rattle.membership.specs.TextSets.{Names}
use Rattle.membership.specs.Members.{Members, GroupsByName, Membership, Rooms, name_code, names_code, members_code, groups_code, membership_code}

-- the smaller of two numbers
abbrev pub smaller : ℕ → ℕ → ℕ
smaller a b = if nat_le a b then a else b

-- names, and room for more
pub record KeptNames : Type 0 where
  pub names : Names
  pub spare : ℕ

-- a group's members, and room for more of each kind
pub record KeptGroup : Type 0 where
  pub members : Members
  pub spare : ℕ

-- groups, room in each of them, and room for more of them
pub record KeptGroups : Type 0 where
  pub groups : GroupsByName
  pub rooms : Rooms
  pub spare : ℕ

-- what an organisation has, room in each of its groups, and room for more users, clients and groups
pub record Kept : Type 0 where
  pub membership : Membership
  pub rooms : Rooms
  pub spare : ℕ

-- groups that are kept, by their names
abbrev pub Entries : Type 0
Entries = List (List ℕ × KeptGroup)

-- the groups that are seen
abbrev pub groups_seen : Entries → GroupsByName
groups_seen entries = finite.from_entries (map (λ e. (e.0, e.1.members)) entries)

-- the rooms that are seen
abbrev pub rooms_seen : Entries → Rooms
rooms_seen entries = finite.from_entries (map (λ e. (e.0, e.1.spare)) entries)

-- the room in a group: none where it isn't there
abbrev pub room_of : Rooms → List ℕ → ℕ
room_of rooms name = unwrap_or (finite.get rooms name) 0

-- the room in every other group is as it was
abbrev pub OthersKeepRoom : List ℕ → Rooms → Rooms → Type 0
OthersKeepRoom name old new = (other : List ℕ) → other ≢ name → room_of new other ≡ room_of old other

abbrev pub kept_names_code : Coded KeptNames
kept_names_code = code_by (Names × ℕ) (coded× names_code coded_ℕ) (λ k. (k.names, k.spare)) (λ p. record { names = p.0; spare = p.1 }) (λ _. refl)

abbrev pub kept_group_code : Coded KeptGroup
kept_group_code = code_by (Members × ℕ) (coded× members_code coded_ℕ) (λ k. (k.members, k.spare)) (λ p. record { members = p.0; spare = p.1 }) (λ _. refl)

abbrev pub rooms_code : Coded Rooms
rooms_code = finite.code name_code coded_ℕ

abbrev pub kept_groups_code : Coded KeptGroups
kept_groups_code = code_by (GroupsByName × (Rooms × ℕ)) (coded× groups_code (coded× rooms_code coded_ℕ)) (λ k. (k.groups, (k.rooms, k.spare))) (λ p. record { groups = p.0; rooms = p.1.0; spare = p.1.1 }) (λ _. refl)

abbrev pub kept_code : Coded Kept
kept_code = code_by (Membership × (Rooms × ℕ)) (coded× membership_code (coded× rooms_code coded_ℕ)) (λ k. (k.membership, (k.rooms, k.spare))) (λ p. record { membership = p.0; rooms = p.1.0; spare = p.1.1 }) (λ _. refl)
