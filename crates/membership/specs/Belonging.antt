-- Who belongs to a group: its own users and clients, and whoever belongs to a group that it lists.
use Rattle.std.specs.Prelude.{◌≡◌, ℕ, zero, suc, Bool, true, false, ◌||◌, ◌↔◌, List, [], length, Option, Some, None, IsTrue}
use Rattle.std.specs.FinMap as finite
use Rattle.std.specs.FinSet as set
use Rattle.std.specs.List.{list_any}
use Rattle.membership.specs.Members.{Members, GroupsByName, Membership}

-- the caller is one of the users or of the clients
abbrev pub is_member : List ℕ → Option Members → Bool
is_member caller None = false
is_member caller (Some members) = set.contains members.users caller || set.contains members.clients caller

-- the name is that of a group within the group
abbrev pub is_within : List ℕ → Option Members → Bool
is_within name None = false
is_within name (Some members) = set.contains members.groups name

-- who belongs to which of some groups: the least set that holds each user and client of a group with that group and that, where a caller belongs to a group which another group lists, holds the caller with that other group
pub data BelongsAmong (groups : GroupsByName) (caller : List ℕ) : List ℕ → Type 0 where
  directly : {group : List ℕ} → is_member caller (finite.get groups group) ≡ true → BelongsAmong groups caller group
  through : {group inner : List ℕ} → is_within inner (finite.get groups group) ≡ true → BelongsAmong groups caller inner → BelongsAmong groups caller group

-- the caller belongs to the group of this name
unfoldable pub Belongs : Membership → List ℕ → List ℕ → Type 0
Belongs membership caller group = BelongsAmong membership.groups caller group

-- the groups within a group
abbrev pub groups_within : Option Members → List (List ℕ)
groups_within None = []
groups_within (Some members) = set.items members.groups

-- whether the caller belongs to the group through so many others at most
unfoldable pub belongs_through : GroupsByName → List ℕ → ℕ → List ℕ → Bool
belongs_through groups caller zero group = is_member caller (finite.get groups group)
belongs_through groups caller (suc count) group =
    is_member caller (finite.get groups group) || list_any (belongs_through groups caller count) (groups_within (finite.get groups group))

-- whether the caller belongs to the group, through as many others as there are groups at most
unfoldable pub belongs_among : GroupsByName → List ℕ → List ℕ → Bool
belongs_among groups caller group = belongs_through groups caller (length (finite.keys groups)) group

-- whether the caller belongs to the group of this name
unfoldable pub belongs : Membership → List ℕ → List ℕ → Bool
belongs membership caller group = belongs_among membership.groups caller group

-- the test tells just who belongs to a group
abbrev pub TellsWhoBelongs : Membership → List ℕ → List ℕ → Type 0
TellsWhoBelongs membership caller group = IsTrue (belongs membership caller group) ↔ Belongs membership caller group
