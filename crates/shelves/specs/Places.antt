-- Where a key stands among entries in key order, or would stand.
use Rattle.std.specs.Prelude.{◌≡◌, ℕ, ◌<◌, ◌≤◌, List, length, insert, remove, not, IsTrue, None, Some, Result, Ok, Err, option_map, slice_get, slice_set}
use Rattle.std.specs.declared.cmp.Ordering.{Ordering}
use Rattle.std.specs.FinMap.Entries.{find, put, where_key, is_sorted}
use Rattle.std.specs.Ordering.{eq_by_cmp}

module _ {K V : Type 0} (cmp : K → K → Ordering) where
  -- the keys rise
  abbrev pub IsInKeyOrder : List (K × V) → Type 0
  IsInKeyOrder entries = IsTrue (is_sorted cmp entries)

  -- the entries without that of a key
  abbrev pub entries_without : K → List (K × V) → List (K × V)
  entries_without key entries = where_key cmp (λ k. not (eq_by_cmp cmp key k)) entries

  -- the entry of the key stands at this place: there its value is read and written, and there it is taken out
  pub record IsHeldAt (key : K) (entries : List (K × V)) (at : ℕ) : Type 0 where
    pub within : at < length entries
    pub value : find cmp key entries ≡ option_map (λ e. e.1) (slice_get entries at)
    pub written : (e : K × V) (v : V) → slice_get entries at ≡ Some e → put cmp key v entries ≡ slice_set entries at (e.0, v)
    pub taken : entries_without key entries ≡ remove entries at

  -- no entry has the key, and a new one goes in at this place
  pub record IsGapAt (key : K) (entries : List (K × V)) (at : ℕ) : Type 0 where
    pub within : at ≤ length entries
    pub absent : find cmp key entries ≡ None
    pub added : (v : V) → put cmp key v entries ≡ insert entries at (key, v)
    pub kept : entries_without key entries ≡ entries

  -- what a search for a key answers
  abbrev pub IsPlace : K → List (K × V) → Result ℕ ℕ → Type 0
  IsPlace key entries (Ok at) = IsHeldAt key entries at
  IsPlace key entries (Err at) = IsGapAt key entries at
