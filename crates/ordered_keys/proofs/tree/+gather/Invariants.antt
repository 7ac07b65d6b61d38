-- The tree grows smaller.
use Rattle.std.proofs.Common.{length}
use Rattle.ordered_keys.specs.Nodes.{numbers_in}
use Rattle.ordered_keys.proofs.tree.+gather.Given as goal

abbrev pub decreases-gather : goal.decreases-gather
decreases-gather g l = length (numbers_in l.nodes.now.items l.root)
