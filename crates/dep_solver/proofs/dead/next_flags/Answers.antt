use Rattle.std.proofs.Common.{◌≡◌, ◌<◌, List, length, get_or, subst}
use Rattle.dep_solver.specs.declared.universe.Cookbook.{Cookbook}
use Rattle.dep_solver.specs.Search.{AreFlagsOf}
use Rattle.dep_solver.proofs.DeadLemmas.{zips_more, zips_none}
use Rattle.dep_solver.proofs.dead.next_flags.Goals as goal

pub loop-cookbook-init : goal.loop-cookbook-init
loop-cookbook-init c = zips_none (AreFlagsOf c.args.universe.now c.args.rules.now c.args.roots.now c.args.dead.now) c.args.universe.now.cookbooks _ c.new-flags.ensures

pub loop-cookbook-preserved : goal.loop-cookbook-preserved
loop-cookbook-preserved c =
    zips_more (AreFlagsOf c.args.universe.now c.args.rules.now c.args.roots.now c.args.dead.now) c.args.universe.now.cookbooks c.loop-cookbook.cookbook-index c.cookbook-item.result c.loop-cookbook.flags c.push.new.self _
    (subst (λ (cs : List Cookbook). c.loop-cookbook.cookbook-index < length cs) c.as_slice-cookbook-items.ensures c.loop-cookbook-test.true)
    (subst (λ (cs : List Cookbook). c.cookbook-item.result ≡ get_or cs c.loop-cookbook.cookbook-index c.cookbook-item.result) c.as_slice-cookbook-items.ensures c.cookbook-item.is)
    c.loop-cookbook.invariant c.in_ok-cookbook_flags.ensures c.in_ok-push.ensures.ok
