-- Numbers in slots, on ways that begin at hashes, for the private clauses.
use Rattle.std.specs.Prelude.{◌≡◌, ◌≢◌, ℕ, ◌+◌, ◌-◌, ◌%◌, ◌<◌, Bool, List, length, nat_lt, if◌then◌else◌, slice_index_or, IsTrue, Option, Some, ⊤}
use Rattle.search_index.specs.Place.{no_number}
use Rattle.search_index.specs.declared.hashed_numbers.End.{End}
use Rattle.search_index.specs.declared.hashed_numbers.End.TheVariants.{Number, FreeSlot, Begin}

-- the place at a step of the way from a hash: round so many places, from the one at its remainder
abbrev pub place_on_way : ℕ → ℕ → ℕ → ℕ
place_on_way size hash step =
    let start : ℕ = hash % size in
    if nat_lt step (size - start) then start + step else step - (size - start)

-- the number in the slot at a step of the way from a hash
abbrev pub slot_on_way : List ℕ → ℕ → ℕ → ℕ
slot_on_way slots hash step = slice_index_or slots (place_on_way (length slots) hash step) no_number

-- whoever goes the way from the hash meets the number before any free slot
abbrev pub IsMet : List ℕ → ℕ → ℕ → Type 0
IsMet slots hash number = (step : ℕ) → step < length slots → slot_on_way slots hash step ≡ no_number → (before : ℕ) × (before < step) × (slot_on_way slots hash before ≡ number)

-- each number is met that has a hash
abbrev pub AreMet : (ℕ → Option ℕ) → List ℕ → Type 0
AreMet hash slots = (number h : ℕ) → hash number ≡ Some h → IsMet slots h number

-- the numbers that were met are met
abbrev pub Keeps : List ℕ → List ℕ → Type 0
Keeps old new = (hash number : ℕ) → number ≢ no_number → IsMet old hash number → IsMet new hash number

-- what the end of a way tells: which number is meant, or that none is that is met
abbrev pub Finds : (ℕ → Bool) → List ℕ → ℕ → End → Type 0
Finds meant slots hash (Number number) = IsTrue (meant number)
Finds meant slots hash FreeSlot = (number : ℕ) → IsMet slots hash number → IsTrue (meant number) → ⊥
Finds meant slots hash Begin = ⊤
