use Rattle.dep_solver.proofs.CopyLemmas.{copies_more}
use Rattle.dep_solver.proofs.roots.copy_names.Goals as goal

pub loop-name-preserved : goal.loop-name-preserved
loop-name-preserved c =
    copies_more c.as_slice-name-items.result.now c.args.names.now c.loop-name.copies.items c.push.new.self.items c.loop-name.name-index c.name-item.result _ c.as_slice-name-items.ensures
    c.loop-name-test.true c.name-item.is c.in_ok-copy.ensures c.loop-name.invariant c.in_ok-push.ensures.items
