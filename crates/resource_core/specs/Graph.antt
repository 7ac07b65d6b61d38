-- Places that lead to places.
use Rattle.std.specs.Prelude.{◌≡◌, ℕ, suc, ◌<◌, ◌==◌, Bool, true, nat_lt, List, [], ◌∷◌, slice_index_or, slice_index}
use Rattle.std.specs.List.{list_all, list_any}

-- a place leads to another at once
abbrev pub leads_at_once : List (List ℕ) → ℕ → ℕ → Bool
leads_at_once nexts from to = list_any (λ next. next == to) (slice_index_or nexts from [])

-- a way that isn't empty leads from a place to another
pub data Leads (nexts : List (List ℕ)) : ℕ → ℕ → Type 0 where
  at_once : {from to : ℕ} → leads_at_once nexts from to ≡ true → Leads nexts from to
  onward : {from between to : ℕ} → leads_at_once nexts from between ≡ true → Leads nexts between to → Leads nexts from to

-- a place lies on a cycle: a way leads from it back to it
abbrev pub IsOnCycle : List (List ℕ) → ℕ → Type 0
IsOnCycle nexts place = Leads nexts place place

-- whatever a place leads to at once is less deep
abbrev pub Falls : List (List ℕ) → List ℕ → Type 0
Falls nexts depths = (from to : ℕ) → leads_at_once nexts from to ≡ true → slice_index depths to < slice_index depths from

-- of the things that stand at the places from one on, in order, those whose place lies on a cycle
pub data OnCycles {X : Type 0} (nexts : List (List ℕ)) : ℕ → List X → List X → Type 0 where
  none : {place : ℕ} → OnCycles nexts place [] []
  on : {place : ℕ} {x : X} {xs ys : List X} → IsOnCycle nexts place → OnCycles nexts (suc place) xs ys → OnCycles nexts place (x ∷ xs) (x ∷ ys)
  off : {place : ℕ} {x : X} {xs ys : List X} → (IsOnCycle nexts place → ⊥) → OnCycles nexts (suc place) xs ys → OnCycles nexts place (x ∷ xs) ys

-- each place leads to places below this number alone
abbrev pub are_within : ℕ → List (List ℕ) → Bool
are_within count nexts = list_all (list_all (λ next. nat_lt next count)) nexts
