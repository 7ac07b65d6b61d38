-- The keys of a finite map rise.
use Rattle.std.specs.Prelude.{◌≡◌, T, Bool, true, false, ◌&&◌, List, [], ◌∷◌, refl, map}
use Rattle.std.specs.declared.cmp.Ordering.{Ordering}
use Rattle.std.specs.declared.cmp.Ordering.TheVariants.{Less, Equal, Greater}
use Rattle.std.specs.FinMap as finite
use Rattle.std.specs.FinMap.Entries.{below_all, is_sorted}
use Rattle.std.specs.List.{AllByRecursion}
use Rattle.std.specs.List.Sorted.{IsStrictlySortedBy}
use Rattle.std.specs.Map.{keys_of}
use Rattle.std.specs.Ordering.{is_lt}

first : (a b : Bool) → T (a && b) → T a
first true b both = tt
first false b both = absurd both

second : (a b : Bool) → T (a && b) → T b
second true b both = both
second false b both = absurd both

less : (order : Ordering) → T (is_lt order) → order ≡ Less
less Less is = refl
less Equal is = absurd is
less Greater is = absurd is

module _ {K X : Type 0} (R : K → K → Ordering) where
  all_above : (k : K) (es : List (K × X)) → T (below_all R k es) → AllByRecursion (λ other. R k other ≡ Less) (keys_of es)
  all_above k [] below = tt
  all_above k (e ∷ es) below = (less _ (first _ _ below), all_above k es (second _ _ below))

  -- each key of entries in order is below those after it
  pub sorted_rise : (es : List (K × X)) → T (is_sorted R es) → IsStrictlySortedBy R (keys_of es)
  unfolding IsStrictlySortedBy
  sorted_rise [] sorted = tt
  sorted_rise (e ∷ es) sorted = (all_above e.0 es (first _ _ sorted), sorted_rise es (second _ _ sorted))

  -- and so is each key of a finite map
  pub keys_rise : (m : finite.FinMap R X) → IsStrictlySortedBy R (finite.keys m)
  keys_rise m = sorted_rise (finite.entries m) (finite.entries_sorted m)
