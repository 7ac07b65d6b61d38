-- What a search through places has reached, for the private clauses.
use Rattle.std.specs.Prelude.{◌≡◌, ℕ, ◌<◌, ◌≤◌, ◌+◌, ◌*◌, ◌==◌, ◌⊎◌, Bool, true, false, not, List, length, count_by, slice_index_or}
use Rattle.std.specs.List.{list_any}
use Rattle.resource_core.specs.Graph.{Falls, IsOnCycle, Leads, leads_at_once}
use Rattle.resource_core.specs.declared.depths.Order.{Order}
use Rattle.resource_core.specs.declared.depths.Order.TheVariants.{Depths, Cycles}

-- the place is among these
abbrev pub is_among : List ℕ → ℕ → Bool
is_among places place = list_any (λ p. p == place) places

-- the place's flag is set
abbrev pub is_set : List Bool → ℕ → Bool
is_set flags place = slice_index_or flags place false

-- how many flags aren't set
abbrev pub unset : List Bool → ℕ
unset flags = count_by not flags

-- the flags of these places are set too, and each place whose flag was not is put on the list
pub record GoesOn (nexts : List ℕ) (old : List Bool) (todo : List ℕ) (new : List Bool) (later : List ℕ) : Type 0 where
  pub same_length : length new ≡ length old
  pub kept : (t : ℕ) → is_set old t ≡ true → is_set new t ≡ true
  pub set_now : (t : ℕ) → is_among nexts t ≡ true → is_set new t ≡ true
  pub no_other : (t : ℕ) → is_set new t ≡ true → (is_set old t ≡ true) ⊎ (is_among nexts t ≡ true)
  pub listed : (t : ℕ) → is_among todo t ≡ true → is_among later t ≡ true
  pub put : (t : ℕ) → is_set new t ≡ true → (is_set old t ≡ true) ⊎ (is_among later t ≡ true)
  pub none_else : (t : ℕ) → is_among later t ≡ true → (is_among todo t ≡ true) ⊎ (is_among nexts t ≡ true)
  pub less : 2 * unset new + length later ≤ 2 * unset old + length todo

-- the flags are those of the places to which a way leads from the start
pub record IsReach (nexts : List (List ℕ)) (start : ℕ) (reached : List Bool) : Type 0 where
  pub flags_each : length reached ≡ length nexts
  pub sound : (t : ℕ) → is_set reached t ≡ true → Leads nexts start t
  pub complete : (t : ℕ) → Leads nexts start t → is_set reached t ≡ true

-- so it is so far, while these places are still to be gone on from
pub record Searches (nexts : List (List ℕ)) (start : ℕ) (reached : List Bool) (todo : List ℕ) : Type 0 where
  pub flags_each : length reached ≡ length nexts
  pub sound : (t : ℕ) → is_set reached t ≡ true → Leads nexts start t
  pub known : (t : ℕ) → is_among todo t ≡ true → (t ≡ start) ⊎ (is_set reached t ≡ true)
  pub closed : (q : ℕ) → (q ≡ start) ⊎ (is_set reached q ≡ true) → (is_among todo q ≡ true) ⊎ ((t : ℕ) → leads_at_once nexts q t ≡ true → is_set reached t ≡ true)

-- for each place below a number: its flag says whether it lies on a cycle, and its count is how many places it leads to
abbrev pub AreSearched : List (List ℕ) → ℕ → List Bool → List ℕ → Type 0
AreSearched nexts done flags counts =
    (p : ℕ) → p < done → (reached : List Bool) × IsReach nexts p reached × (is_set flags p ≡ is_set reached p) × (slice_index_or counts p 0 ≡ count_by (λ b. b) reached)

-- depths that fall, or flags that say which places lie on cycles, of which there is one
abbrev pub IsOrderOf : List (List ℕ) → Order → Type 0
IsOrderOf nexts (Depths depths) = (length depths.items ≡ length nexts) × Falls nexts depths.items
IsOrderOf nexts (Cycles flags) =
    (length flags.items ≡ length nexts)
    × ((p : ℕ) → p < length nexts → (is_set flags.items p ≡ true → IsOnCycle nexts p) × (IsOnCycle nexts p → is_set flags.items p ≡ true))
    × (list_any (λ b. b) flags.items ≡ true)

-- each of these places is less deep
abbrev pub AreBelow : List ℕ → List ℕ → ℕ → Type 0
AreBelow places depths depth = (t : ℕ) → is_among places t ≡ true → slice_index_or depths t 0 < depth
