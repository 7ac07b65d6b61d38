use Rattle.std.proofs.Common.{◌≡◌, ◌<◌, List, Contains, length, get_or, subst, sym}
use Rattle.version_rules.specs.declared.needs.Need.{Need}
use Rattle.dep_solver.specs.declared.universe.Release.{Release}
use Rattle.dep_solver.specs.Search.{CanMeet, IsFlag}
use Rattle.dep_solver.proofs.DeadLemmas.{off_from_not, zips_more, zips_none}
use Rattle.dep_solver.proofs.dead.cookbook_flags.Goals as goal

pub loop-release-init : goal.loop-release-init
loop-release-init c = zips_none (IsFlag c.args.universe.now c.args.rules.now c.args.roots.now c.args.dead.now) c.args.cookbook.now.releases _ c.new-flags.ensures

pub loop-release-preserved : goal.loop-release-preserved
loop-release-preserved c =
    zips_more (IsFlag c.args.universe.now c.args.rules.now c.args.roots.now c.args.dead.now) c.args.cookbook.now.releases c.loop-release.release-index c.release-item.result c.loop-release.flags c.push.new.self _
    (subst (λ (rs : List Release). c.loop-release.release-index < length rs) c.as_slice-release-items.ensures c.loop-release-test.true)
    (subst (λ (rs : List Release). c.release-item.result ≡ get_or rs c.loop-release.release-index c.release-item.result) c.as_slice-release-items.ensures c.release-item.is)
    c.loop-release.invariant
    (λ flagged all. off_from_not c.can_be_met.result flagged (c.can_be_met.ensures.1
    (subst (λ (ns : List Need). (need : Need) → Contains ns need → CanMeet c.args.universe.now c.args.rules.now c.args.roots.now c.args.dead.now need) (sym c.as_slice.ensures) all)))
    c.in_ok-push.ensures.ok
