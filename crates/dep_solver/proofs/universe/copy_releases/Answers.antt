use Rattle.dep_solver.proofs.CopyLemmas.{copies_more}
use Rattle.dep_solver.proofs.universe.copy_releases.Goals as goal

pub loop-release-preserved : goal.loop-release-preserved
loop-release-preserved c =
    copies_more c.as_slice-release-items.result.now c.args.releases.now c.loop-release.copies.items c.push.new.self.items c.loop-release.release-index c.release-item.result _ c.as_slice-release-items.ensures
    c.loop-release-test.true c.release-item.is c.in_ok-copy.ensures c.loop-release.invariant c.in_ok-push.ensures.items
