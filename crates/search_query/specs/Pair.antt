-- Pairs of a field and a value, and lists of them in order.
use Rattle.std.specs.Prelude.{ℕ, Bool, List, refl}
use Rattle.std.specs.Coded.{Coded, code_by, coded×, coded_list, coded_ℕ}
use Rattle.std.specs.List.{list_any}
use Rattle.std.specs.List.Sorted.{IsStrictlySortedBy}
use Rattle.std.specs.declared.cmp.Ordering.{Ordering}
use Rattle.std.specs.Ordering.{nat_cmp, ordering_then, eq_by_cmp}
use Rattle.std.specs.Cmp.{IsTotalOrder, then_total, on_total}
use Rattle.std.specs.Cmp.Lexicographic.{slice_cmp, nat_list_cmp_total}

-- a field and a value
pub record Pair : Type 0 where
  pub field : List ℕ
  pub value : List ℕ

-- this field with this value
abbrev pub pair : List ℕ → List ℕ → Pair
pair field value = record { field = field; value = value }

-- how the logic stores a pair: as the field and the value
abbrev pub pair_code : Coded Pair
pair_code = code_by (List ℕ × List ℕ) (coded× (coded_list coded_ℕ) (coded_list coded_ℕ)) (λ p. (p.field, p.value)) (λ p. record { field = p.0; value = p.1 }) (λ _. refl)

-- pairs are in the order of the bytes of their fields, and then of their values
abbrev pub pair_cmp : Pair → Pair → Ordering
pair_cmp x y = ordering_then (slice_cmp nat_cmp x.field y.field) (slice_cmp nat_cmp x.value y.value)

-- two pairs are equal
abbrev pub same_pair : Pair → Pair → Bool
same_pair = eq_by_cmp pair_cmp

-- any two pairs are in order
pub pair_cmp_total : IsTotalOrder pair_cmp
pair_cmp_total = then_total (on_total (λ (p : Pair). p.field) nat_list_cmp_total) (on_total (λ (p : Pair). p.value) nat_list_cmp_total)

-- the pair is one of these
abbrev pub lists : List Pair → Pair → Bool
lists pairs p = list_any (same_pair p) pairs

-- the pairs are in order, and none is there twice
abbrev pub IsRising : List Pair → Type 0
IsRising pairs = IsStrictlySortedBy pair_cmp pairs
