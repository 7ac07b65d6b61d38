use Rattle.dep_solver.proofs.CopyLemmas.{copies_more}
use Rattle.dep_solver.proofs.universe.Universe.copy.Goals as goal

pub loop-cookbook-preserved : goal.loop-cookbook-preserved
loop-cookbook-preserved c =
    copies_more c.as_slice-cookbook-items.result.now c.args.self.now.cookbooks c.loop-cookbook.copies.items c.push.new.self.items c.loop-cookbook.cookbook-index c.cookbook-item.result _ c.as_slice-cookbook-items.ensures
    c.loop-cookbook-test.true c.cookbook-item.is c.in_ok-copy.ensures c.loop-cookbook.invariant c.in_ok-push.ensures.items
