-- Postings by their places, of which some are free, for the private clauses.
use Rattle.std.specs.Prelude.{◌≡◌, ◌≢◌, ◌==◌, ℕ, zero, suc, ◌+◌, ◌≤◌, List, length, map, min, Option, Some, None, is_some, IsSome, count_by, slice_get, slice_index_or, slice_set, if◌then◌else◌}
use Rattle.search_index.specs.Place.{no_number}
use Rattle.search_index.specs.declared.posting.Posting.{Posting}

-- the posting or nothing in each place, and how many postings fit without memory
pub record Places : Type 0 where
  pub slots : List (Option Posting)
  pub capacity : ℕ

-- the posting in a place
abbrev pub get : Places → ℕ → Option Posting
get s place = slice_index_or s.slots place None

-- a posting is in the place
abbrev pub IsTaken : Places → ℕ → Type 0
IsTaken s place = IsSome (get s place)

-- how many places are taken
abbrev pub taken_count : Places → ℕ
taken_count s = count_by is_some s.slots

-- so many more postings fit without memory
abbrev pub HasRoomFor : Places → ℕ → Type 0
HasRoomFor s more = taken_count s + more ≤ s.capacity

-- with another posting in a place
abbrev pub with_value : Places → ℕ → Posting → Places
with_value s place x = record { slots = slice_set s.slots place (Some x); capacity = s.capacity }

-- this is in the place now, and in every other what was there
pub record Updates (old new : Places) (place : ℕ) (slot : Option Posting) : Type 0 where
  pub changed : get new place ≡ slot
  pub others : (other : ℕ) → other ≢ place → get new other ≡ get old other

-- a place is free where its object's number is that of none
abbrev pub value_of : Posting → Option Posting
value_of x = if x.object == no_number then None else Some x

-- what contracts see of them
abbrev pub places_of : List Posting → ℕ → Places
places_of xs capacity = record { slots = map value_of xs; capacity = min capacity no_number }

-- from the first, so many free places each lead to the next, and then they end
abbrev pub IsFreeList : List Posting → ℕ → Option ℕ → Type 0
IsFreeList xs zero first = first ≡ None
IsFreeList xs (suc n) first = (p : ℕ) × (x : Posting) × (first ≡ Some p) × (slice_get xs p ≡ Some x) × (x.object ≡ no_number) × IsFreeList xs n x.of_object.next

-- the taken places are counted, every other one is in the list of free places, and each has a number
pub record IsStored (xs : List Posting) (taken : ℕ) (free : Option ℕ) : Type 0 where
  pub counted : taken ≡ count_by is_some (map value_of xs)
  pub vacant : ℕ
  pub total : taken + vacant ≡ length xs
  pub linked : IsFreeList xs vacant free
  pub numbered : length xs ≤ no_number
