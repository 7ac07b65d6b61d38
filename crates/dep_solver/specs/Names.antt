-- Names of cookbooks: when two are one name, and the order of their bytes.
use Rattle.std.specs.Prelude.{ℕ, Bool, ◌==◌, List}
use Rattle.std.specs.Ordering.{nat_cmp}
use Rattle.std.specs.Cmp.Lexicographic.{pointwise, slice_cmp}
use Rattle.std.specs.declared.cmp.Ordering.{Ordering}

-- a name, by its bytes
abbrev pub CookbookName : Type 0
CookbookName = List ℕ

-- the two are one name
abbrev pub same_name : CookbookName → CookbookName → Bool
same_name = pointwise ◌==◌
