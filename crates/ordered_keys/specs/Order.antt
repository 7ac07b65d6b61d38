-- The order of keys that rise, for the private clauses.
use Rattle.std.specs.Prelude.{◌≡◌, ℕ, List, [], ◌∷◌, Option, Some}
use Rattle.std.specs.declared.cmp.Ordering.{Ordering}
use Rattle.std.specs.declared.cmp.Ordering.TheVariants.{Less}
use Rattle.ordered_keys.specs.Numbers.{Among}
use Rattle.ordered_keys.specs.Arranged.{Arrangement, IsListing, item_of}

module _ {K : Type 0} (cmp : K → K → Ordering) where
  -- the key under one number is below that under the other
  abbrev pub IsLess : (ℕ → Option K) → ℕ → ℕ → Type 0
  IsLess key i j = (x y : K) × (key i ≡ Some x) × (key j ≡ Some y) × (cmp x y ≡ Less)

  -- the keys under these numbers rise
  abbrev pub IsRising : (ℕ → Option K) → List ℕ → Type 0
  IsRising key [] = Unit {0}
  IsRising key (i ∷ is) = ((j : ℕ) → Among is j → IsLess key i j) × IsRising key is

  -- the order has the numbers of all keys, and these keys rise
  pub record IsInOrder (a : Arrangement K) : Type 0 where
    pub listed : IsListing (item_of a) a.order
    pub rising : IsRising (item_of a) a.order
