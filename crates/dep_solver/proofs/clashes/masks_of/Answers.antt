use Rattle.std.proofs.Common.{◌≡◌, ◌<◌, List, length, get_or, subst}
use Rattle.dep_solver.specs.declared.universe.Release.{Release}
use Rattle.dep_solver.specs.Conflicts.{IsMask}
use Rattle.dep_solver.proofs.DeadLemmas.{zips_more}
use Rattle.dep_solver.proofs.clashes.masks_of.Goals as goal

pub loop-release-preserved : goal.loop-release-preserved
loop-release-preserved c =
    zips_more (IsMask c.args.universe.now c.args.other) c.args.cookbook.now.releases c.loop-release.release-index c.release-item.result c.loop-release.masks.items c.push.new.self.items c.mask_of.result
    (subst (λ (rs : List Release). c.loop-release.release-index < length rs) c.as_slice-release-items.ensures c.loop-release-test.true)
    (subst (λ (rs : List Release). c.release-item.result ≡ get_or rs c.loop-release.release-index c.release-item.result) c.as_slice-release-items.ensures c.release-item.is)
    c.loop-release.invariant c.mask_of.ensures c.in_ok-push.ensures.items
