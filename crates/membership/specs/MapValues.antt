-- Finite maps in which each value is changed alike.
use Rattle.std.specs.Prelude.{map}
use Rattle.std.specs.FinMap as finite
use Rattle.std.specs.declared.cmp.Ordering.{Ordering}

-- the map with each value changed alike
abbrev pub map_values : {K X Y : Type 0} → {R : K → K → Ordering} → (X → Y) → finite.FinMap R X → finite.FinMap R Y
map_values change m = finite.from_entries (map (λ e. (e.0, change e.1)) (finite.entries m))
