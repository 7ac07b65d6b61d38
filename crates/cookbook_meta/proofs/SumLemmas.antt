-- A list that is sorted and then has its repeats taken out.
use Rattle.std.proofs.Common.{◌≡◌, ◌↔◌, ℕ, List, bytes_eq, sym, subst}
use Rattle.std.proofs.lemmas.List.Kept.{Contains-dedup, Contains-from_dedup, IsStrictlySortedBy-dedup}
use Rattle.std.proofs.lemmas.List.Sorted.{Contains-permutation, IsPermutation-sym}
use Rattle.std.proofs.lemmas.Slice.Eq.{bytes_eq-Decides}
use Rattle.std.specs.Cmp.Lexicographic.{slice_cmp, nat_list_eq_equiv, nat_list_cmp_total, texts_ties}
use Rattle.std.specs.List.{Contains, dedup}
use Rattle.std.specs.List.Sorted.{IsPermutation, IsSorted}
use Rattle.std.specs.Ordering.{nat_cmp}
use Rattle.doc_tree.specs.Valid.{InOrder}

-- it rises
pub sums_rise : (sorted result : List (List ℕ)) → IsSorted (slice_cmp nat_cmp) sorted → result ≡ dedup bytes_eq sorted → InOrder result
sums_rise sorted result order is = subst InOrder (sym is) (IsStrictlySortedBy-dedup nat_list_cmp_total texts_ties sorted order)

-- it has what the list has
pub sums_stay : (found sorted result : List (List ℕ)) → IsPermutation found sorted → result ≡ dedup bytes_eq sorted → (sum : List ℕ) → Contains result sum ↔ Contains found sum
sums_stay found sorted result moved is sum = (
  λ h. Contains-permutation sorted found sum (IsPermutation-sym found sorted moved) (Contains-from_dedup bytes_eq sorted sum (subst (λ (sums : List (List ℕ)). Contains sums sum) is h)),
  λ h. subst (λ (sums : List (List ℕ)). Contains sums sum) (sym is) (Contains-dedup nat_list_eq_equiv (λ x y. (bytes_eq-Decides x y).0) sorted sum (Contains-permutation found sorted sum moved h)),
)
