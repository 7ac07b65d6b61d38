use Rattle.std.proofs.Common.{◌<◌, subst, sym}
use Rattle.std.specs.FinMap as finite
use Rattle.host_tree.specs.Entries.{Entries}
use Rattle.host_tree.specs.Image.{LosesBelow}
use Rattle.host_tree.proofs.KeptLemmas.{takes-last}
use Rattle.host_tree.proofs.image.ImageHost.take_below.Goals as goal

pub loop-last-preserved : goal.loop-last-preserved
loop-last-preserved c =
    subst (λ (h : Entries). LosesBelow c.args.ends.now c.args.self.now h) (sym c.take.ensures)
    (takes-last c.args.ends.now c.in-Some.last c.args.self.now c.loop-last.self c.loop-last.invariant (rw c.in-Some.is at c.in_ok-last.ensures)).0

pub loop-last-smaller : goal.loop-last-smaller
loop-last-smaller c =
    subst (λ (h : Entries). finite.len h < finite.len c.loop-last.self) (sym c.take.ensures)
    (takes-last c.args.ends.now c.in-Some.last c.args.self.now c.loop-last.self c.loop-last.invariant (rw c.in-Some.is at c.in_ok-last.ensures)).1
