-- Which group leads to which, as it is kept: by the places of the groups, in a square of truth values.
use Rattle.std.specs.Prelude.{◌≡◌, ◌⊎◌, ℕ, ◌+◌, ◌*◌, ◌<◌, ◌≤◌, Bool, true, false, List, [], length, map, Option, Some, None, option_map, slice_index_or}
use Rattle.std.specs.FinSet as set
use Rattle.std.specs.List.{slice_get}
use Rattle.membership.specs.declared.member_kind.MemberKind.{MemberKind}
use Rattle.membership.specs.declared.member_kind.MemberKind.TheVariants.{User, Client, Group}
use Rattle.membership.specs.Belonging.{is_member}
use Rattle.membership.specs.TextSets.{Names}
use Rattle.membership.specs.Rooms.{Entries}

-- names of groups, each with those of the groups within it
abbrev pub Listing : Type 0
Listing = List (List ℕ × Names)

-- what groups that are kept list
abbrev pub listing : Entries → Listing
listing entries = map (λ e. (e.0, e.1.members.groups)) entries

-- as many groups as before list what they did
abbrev pub KeepsLists : Entries → Entries → Type 0
KeepsLists old new = listing new ≡ listing old

-- a group, where there is one, lists another
abbrev pub lists_other : Option (List ℕ × Names) → Option (List ℕ × Names) → Bool
lists_other None to = false
lists_other (Some from) None = false
lists_other (Some from) (Some to) = set.contains from.1 to.0

-- the group at one place lists the one at another
abbrev pub lists_at : Listing → ℕ → ℕ → Bool
lists_at groups from to = lists_other (slice_get groups from) (slice_get groups to)

-- one of so many leads to another: it lists it, or lists one that leads to it
pub data Leads (count : ℕ) (lists : ℕ → ℕ → Bool) : ℕ → ℕ → Type 0 where
  at_once : {from to : ℕ} → from < count → to < count → lists from to ≡ true → Leads count lists from to
  by_way_of : {from mid to : ℕ} → from < count → mid < count → lists from mid ≡ true → Leads count lists mid to → Leads count lists from to

-- what a square of truth values, each row of so many, has at a row and a column: false where it has none
abbrev pub at : ℕ → List Bool → ℕ → ℕ → Bool
at count cells row column = slice_index_or cells (row * count + column) false

-- the square is of so many rows and columns, or has none
abbrev pub IsSquare : ℕ → List Bool → Type 0
IsSquare count cells = (cells ≡ []) ⊎ (length cells ≡ count * count)

-- the first so many cells of a square say which group lists which
pub record Notes (count : ℕ) (groups : Listing) (so_many : ℕ) (cells : List Bool) : Type 0 where
  pub len : length cells ≡ so_many
  pub lists : (from to : ℕ) → from < count → to < count → from * count + to < so_many → at count cells from to ≡ lists_at groups from to

-- a relation on so many places has just those of which one leads to the other
pub record IsLeading (count : ℕ) (lists leads : ℕ → ℕ → Bool) : Type 0 where
  pub sound : (from to : ℕ) → from < count → to < count → leads from to ≡ true → Leads count lists from to
  pub listed : (from to : ℕ) → from < count → to < count → lists from to ≡ true → leads from to ≡ true
  pub onward : (from mid to : ℕ) → from < count → mid < count → to < count → leads from mid ≡ true → leads mid to ≡ true → leads from to ≡ true

-- the square has which of so many groups leads to which
pub record TellsLeading (count : ℕ) (groups : Listing) (cells : List Bool) : Type 0 where
  pub square : IsSquare count cells
  pub leading : IsLeading count (lists_at groups) (at count cells)

-- the same of groups that are kept
abbrev pub Tells : Entries → List Bool → Type 0
Tells entries cells = TellsLeading (length entries) (listing entries) cells

-- a fact, but not of a kind that is groups
abbrev pub UnlessGroup : MemberKind → Type 0 → Type 0
UnlessGroup User P = P
UnlessGroup Client P = P
UnlessGroup Group P = Unit {0}

-- the caller is a user or client of the group at a place
abbrev pub member_at : Entries → ℕ → List ℕ → Bool
member_at entries place caller = is_member caller (option_map (λ e. e.1.members) (slice_get entries place))

-- the caller is a user or client of a group to which the one at a place leads
abbrev pub IsMemberBeyond : Entries → List Bool → ℕ → List ℕ → Type 0
IsMemberBeyond entries cells place caller = (to : ℕ) × (to < length entries) × (at (length entries) cells place to ≡ true) × (member_at entries to caller ≡ true)

-- or of that group itself
abbrev pub IsMemberFrom : Entries → List Bool → ℕ → List ℕ → Type 0
IsMemberFrom entries cells place caller = (member_at entries place caller ≡ true) ⊎ IsMemberBeyond entries cells place caller

-- groups that are kept with the square of which leads to which, which has room for as many groups as `most`
pub record IsWorkedOut (entries : Entries) (most capacity : ℕ) (cells : List Bool) : Type 0 where
  pub fits : length entries ≤ most
  pub room : most * most ≤ capacity
  pub tells : Tells entries cells
