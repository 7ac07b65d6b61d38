-- Shelves and entries that are copied one by one.
use Rattle.std.proofs.Common.{◌≡◌, ◌<◌, ◌+◌, ℕ, List, [], ◌∷◌, ◌++◌, length, take, get_or, sym, ap, ◌∙◌}
use Rattle.std.proofs.lemmas.List.{map_push, take_more}
use Rattle.shelves.specs.SortedMap.{Sorted}
use Rattle.shelves.specs.Rooms.{shelves_seen}

-- one more entry, equal to the next
pub entry_more : {K V : Type 0} (entries made new : List (K × V)) (i : ℕ) (x : K × V) (key : K) (value : V) → i < length entries → x ≡ get_or entries i x
    → made ≡ take i entries → new ≡ made ++ (key, value) ∷ [] → key ≡ x.0 → value ≡ x.1 → new ≡ take (i + 1) entries
entry_more entries made new i x key value within is before more same_key same_value =
    more
    ∙ (λ k. before k ++ (same_key k, same_value k) ∷ [])
    ∙ ap (λ e. take i entries ++ e ∷ []) is
    ∙ sym (take_more entries i x within)

module _ {K V : Type 0} where
  -- one more shelf, with the name and the entries of the next
  pub copied_more : (shelves made new : List (List ℕ × Sorted K V)) (i : ℕ) (x y : List ℕ × Sorted K V) → i < length shelves → x ≡ get_or shelves i x
      → shelves_seen made ≡ shelves_seen (take i shelves) → new ≡ made ++ y ∷ [] → y.0 ≡ x.0 → y.1.entries ≡ x.1.entries
      → shelves_seen new ≡ shelves_seen (take (i + 1) shelves)
  copied_more shelves made new i x y within is before more name entries =
      ap shelves_seen more
      ∙ map_push (λ (e : List ℕ × Sorted K V). (e.0, e.1.entries)) made y
      ∙ (λ k. before k ++ (name k, entries k) ∷ [])
      ∙ ap (λ (e : List ℕ × Sorted K V). shelves_seen (take i shelves) ++ (e.0, e.1.entries) ∷ []) is
      ∙ sym (map_push (λ (e : List ℕ × Sorted K V). (e.0, e.1.entries)) (take i shelves) (get_or shelves i x))
      ∙ ap shelves_seen (sym (take_more shelves i x within))
