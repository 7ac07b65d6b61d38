-- All values are those so far and then those of the keys that are left.
use Rattle.std.proofs.Common.{◌≡◌, ◌++◌, drop}
use Rattle.search_query.specs.Partial as spec
use Rattle.search_query.proofs.partial.Partial.values.Given as goal

abbrev pub invariant-loop-key : goal.invariant-loop-key
invariant-loop-key l = spec.data_of l.kind l.key-items l.object ≡ l.values ++ spec.data_of l.kind (drop l.key-index l.key-items) l.object
