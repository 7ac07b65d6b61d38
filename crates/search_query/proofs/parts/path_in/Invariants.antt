-- The level and the keys so far, and then those that are left, are the whole path.
use Rattle.std.proofs.Common.{◌≡◌, ◌++◌, ◌∷◌, drop}
use Rattle.search_query.proofs.parts.path_in.Given as goal

abbrev pub invariant-loop-key : goal.invariant-loop-key
invariant-loop-key l = l.level ∷ l.path ≡ l.whole.items ++ drop l.key-index l.path
