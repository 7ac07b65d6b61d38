-- The places that are linked in the table of a queue, for the private clauses.
use Rattle.std.specs.Prelude.{◌≡◌, ℕ, ◌+◌, ◌*◌, ◌/◌, ◌%◌, ◌<◌, ◌≤◌, Bool, true, false, not, List, [], ◌∷◌, ◌++◌, length, count_by, slice_index_or, slice_get, slice_set, Option, Some, None, ⊤, nat_eq, if◌then◌else◌}
use Rattle.std.specs.List.{list_any}
use Rattle.std.specs.Option.{option_or}
use Rattle.notify_queue.specs.declared.links.Link.{Link}
use Rattle.notify_queue.specs.declared.links.Link.TheVariants.{Never, Last, Before}
use Rattle.notify_queue.specs.declared.links.Links.{Links}
use Rattle.notify_queue.specs.declared.pair.Pair.{Pair}

-- the place of a pair
abbrev pub place_of : Pair → ℕ
place_of pair = 4 * pair.resource + pair.action

-- the pair at a place
abbrev pub pair_at : ℕ → Pair
pair_at place = record { resource = place / 4; action = place % 4 }

-- what stands past the end of the table
abbrev pub never : Link
never = Never

-- the place was never queued
abbrev pub is_never : Link → Bool
is_never Never = true
is_never Last = false
is_never (Before next) = false

-- the place behind one that has this in the table
abbrev pub next_in : Link → Option ℕ
next_in Never = None
next_in Last = None
next_in (Before next) = Some next

-- the place behind one, if there is one
abbrev pub behind : List Link → Option ℕ → Option ℕ
behind table None = None
behind table (Some place) = next_in (slice_index_or table place Never)

-- these places, and behind them this one, unless it is among them
abbrev pub with_place : List ℕ → ℕ → List ℕ
with_place places place = if list_any (nat_eq place) places then places else places ++ place ∷ []

-- a table in which a place, if there is one, leads to another
abbrev pub led_on : List Link → Option ℕ → ℕ → List Link
led_on table None to = table
led_on table (Some from) to = slice_set table from (Before to)

-- a place was put last: the one that was last before leads to it
pub record PutLast (old new : Links) (place : ℕ) : Type 0 where
  pub table : new.table.items ≡ led_on (slice_set old.table.items place Last) old.last place
  pub first : new.first ≡ option_or old.first (Some place)
  pub head : new.head ≡ option_or old.head (Some place)
  pub last : new.last ≡ Some place

-- the next place was taken, if there was one
pub record TakenFrom (old new : Links) : Type 0 where
  pub table : new.table.items ≡ old.table.items
  pub first : new.first ≡ old.first
  pub head : new.head ≡ behind old.table.items old.head
  pub last : new.last ≡ old.last

-- what the table has for a place behind which these were queued
abbrev pub link_to : List ℕ → Link
link_to [] = Last
link_to (next ∷ more) = Before next

-- each of these places leads to the next, and the last to none
abbrev pub AreLinked : List Link → List ℕ → Type 0
AreLinked table [] = ⊤
AreLinked table (place ∷ more) = (slice_index_or table place Never ≡ link_to more) × AreLinked table more

-- the last of these, if there is one
abbrev pub last_from : ℕ → List ℕ → ℕ
last_from place [] = place
last_from place (next ∷ more) = last_from next more

abbrev pub last_of : List ℕ → Option ℕ
last_of [] = None
last_of (place ∷ more) = Some (last_from place more)

-- these places were ever queued, in order, and so many of them were taken
pub record IsLinked (links : Links) (ever : List ℕ) (taken : ℕ) : Type 0 where
  pub linked : AreLinked links.table.items ever
  pub first : links.first ≡ slice_get ever 0
  pub head : links.head ≡ slice_get ever taken
  pub last : links.last ≡ last_of ever
  pub known : (place : ℕ) → place < length links.table.items → is_never (slice_index_or links.table.items place Never) ≡ not (list_any (nat_eq place) ever)
  pub room : count_by is_never links.table.items + length ever ≡ length links.table.items
  pub within : taken ≤ length ever
