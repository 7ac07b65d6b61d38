-- So far only a part of what is below went.
use Rattle.std.specs.FinMap as finite
use Rattle.host_tree.specs.Image.{LosesBelow}
use Rattle.host_tree.proofs.image.ImageHost.take_below.Given as goal

abbrev pub invariant-loop-last : goal.invariant-loop-last
invariant-loop-last l = LosesBelow l.ends l.fn.self l.self

abbrev pub decreases-loop-last : goal.decreases-loop-last
decreases-loop-last l = finite.len l.self
