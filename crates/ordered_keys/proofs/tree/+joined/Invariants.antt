-- Both trees together grow smaller.
use Rattle.std.proofs.Common.{◌+◌, length}
use Rattle.ordered_keys.specs.Nodes.{numbers_in}
use Rattle.ordered_keys.proofs.tree.+joined.Given as goal

abbrev pub decreases-joined : goal.decreases-joined
decreases-joined l = length (numbers_in l.nodes.now.items l.front) + length (numbers_in l.nodes.now.items l.back)
