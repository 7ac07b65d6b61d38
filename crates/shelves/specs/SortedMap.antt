-- Values by their keys, in the order of the keys.
use Rattle.std.specs.Prelude.{◌≢◌, ◌-◌, ℕ, List, Option, IsSome, slice_get, map, refl}
use Rattle.std.specs.Coded.{Coded, code_by, coded×, coded_ℕ, coded_list}
use Rattle.std.specs.declared.cmp.Ordering.{Ordering}
use Rattle.std.specs.declared.cmp.Ordering.TheVariants.{Less}
use Rattle.std.specs.FinMap as finite
use Rattle.shelves.specs.Places.{entries_without}

-- entries in the order of their keys, and how many more fit without memory
pub record Sorted (K V : Type 0) : Type 0 where
  pub entries : List (K × V)
  pub spare : ℕ

-- how the logic stores them
abbrev pub sorted_code : {K V : Type 0} → Coded K → Coded V → Coded (Sorted K V)
sorted_code {K} {V} key value =
    code_by (List (K × V) × ℕ) (coded× (coded_list (coded× key value)) coded_ℕ) (λ s. (s.entries, s.spare)) (λ p. record { entries = p.0; spare = p.1 }) (λ _. refl)

-- the finite map of such entries
abbrev pub map_of : {K V : Type 0} (cmp : K → K → Ordering) → Sorted K V → finite.FinMap cmp V
map_of cmp sorted = finite.from_sorted {R = cmp} sorted.entries

module _ {K V : Type 0} {cmp : K → K → Ordering} where
  -- the map without what stands at a key: `remove` of the finite map, with its entries told
  abbrev pub without_key : K → finite.FinMap cmp V → finite.FinMap cmp V
  without_key key m = finite.from_sorted {R = cmp} (entries_without cmp key (finite.entries m))

  -- the entry of the greatest key
  abbrev pub last_entry : finite.FinMap cmp V → Option (K × V)
  last_entry m = slice_get (finite.entries m) (finite.len m - 1)

  -- no key of the map is above this one
  abbrev pub IsGreatest : K → finite.FinMap cmp V → Type 0
  IsGreatest greatest m = (key : K) → IsSome (finite.get m key) → cmp greatest key ≢ Less

-- the map with each value seen through a function
abbrev pub each_value : {K V W : Type 0} {cmp : K → K → Ordering} → (V → W) → finite.FinMap cmp V → finite.FinMap cmp W
each_value {cmp = cmp} f m = finite.from_sorted {R = cmp} (map (λ e. (e.0, f e.1)) (finite.entries m))
