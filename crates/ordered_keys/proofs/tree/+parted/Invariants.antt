-- The tree grows smaller.
use Rattle.std.proofs.Common.{length}
use Rattle.ordered_keys.specs.Nodes.{numbers_in}
use Rattle.ordered_keys.proofs.tree.+parted.Given as goal

abbrev pub decreases-parted : goal.decreases-parted
decreases-parted g l = length (numbers_in l.nodes.now.items l.root)
