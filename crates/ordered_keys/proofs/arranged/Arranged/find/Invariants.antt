-- The number that is looked for lies below.
use Rattle.std.proofs.Common.{length}
use Rattle.ordered_keys.specs.Keys.{key_in}
use Rattle.ordered_keys.specs.Nodes.{IsTree, numbers_in}
use Rattle.ordered_keys.proofs.FindLemmas.{Seeks}
use Rattle.ordered_keys.proofs.arranged.Arranged.find.Given as goal

abbrev pub invariant-loop-at : goal.invariant-loop-at
invariant-loop-at g l = IsTree l.self-inside.nodes.items l.at × Seeks (g.S.Sought.standing l.sought) (key_in l.self-inside.items.items) (numbers_in l.self-inside.nodes.items l.at)

abbrev pub decreases-loop-at : goal.decreases-loop-at
decreases-loop-at g l = length (numbers_in l.self-inside.nodes.items l.at)
