-- How one number of room is kept for shelves: room for more shelves, room on each, and a pool of empty ones.
use Rattle.std.specs.Prelude.{◌≡◌, ◌≢◌, ℕ, ◌≤◌, List, [], length, map}
use Rattle.std.specs.declared.cmp.Ordering.{Ordering}
use Rattle.std.specs.List.{AllByRecursion}
use Rattle.doc_tree.specs.Text.{text_cmp}
use Rattle.shelves.specs.Places.{IsInKeyOrder}
use Rattle.shelves.specs.SortedMap.{Sorted}

module _ {K V : Type 0} where
  -- the shelves with their names, without their room
  abbrev pub shelves_seen : List (List ℕ × Sorted K V) → List (List ℕ × List (K × V))
  shelves_seen shelves = map (λ entry. (entry.0, entry.1.entries)) shelves

  -- what stands on a shelf: something, with the keys in order
  pub record IsShelf (cmp : K → K → Ordering) (entries : List (K × V)) : Type 0 where
    pub order : IsInKeyOrder cmp entries
    pub filled : entries ≢ []

  -- shelves in the order of their names
  pub record AreShelves (cmp : K → K → Ordering) (shelves : List (List ℕ × List (K × V))) : Type 0 where
    pub names : IsInKeyOrder text_cmp shelves
    pub each : AllByRecursion (λ entry. IsShelf cmp entry.1) shelves

  -- each shelf has room for this many more values
  abbrev pub HaveRoomEach : ℕ → List (List ℕ × Sorted K V) → Type 0
  HaveRoomEach spare shelves = AllByRecursion (λ entry. spare ≤ entry.1.spare) shelves

  -- an empty shelf, with room for this many values
  pub record IsFresh (spare : ℕ) (shelf : Sorted K V) : Type 0 where
    pub empty : shelf.entries ≡ []
    pub room : spare ≤ shelf.spare

  -- empty shelves, with room for this many values on each
  abbrev pub AreFresh : ℕ → List (Sorted K V) → Type 0
  AreFresh spare fresh = AllByRecursion (IsFresh spare) fresh

  -- room for this many more values: `more` for further shelves, room on each, and as many fresh ones
  pub record HaveRoom (spare : ℕ) (shelves : List (List ℕ × Sorted K V)) (room : ℕ) (fresh : List (Sorted K V)) : Type 0 where
    pub more : spare ≤ room
    pub each : HaveRoomEach spare shelves
    pub count : spare ≤ length fresh
    pub pool : AreFresh spare fresh
