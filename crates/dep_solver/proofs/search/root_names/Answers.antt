use Rattle.dep_solver.proofs.SeenLemmas.{root_added, roots_added}
use Rattle.dep_solver.proofs.search.root_names.Goals as goal

pub loop-name-preserved : goal.loop-name-preserved
loop-name-preserved c =
    root_added c.loop-name.names.items c.push.new.self.items c.as_slice-name-items.result.now c.args.roots.now.names c.loop-name.name-index _
    c.as_slice-name-items.ensures c.loop-name-test.true c.name-item.is c.loop-name.invariant c.in_ok-push.ensures.items

pub returns : goal.returns
returns c = roots_added c.loop-name.names.items c.as_slice-name-items.result.now c.args.roots.now.names c.loop-name.name-index c.as_slice-name-items.ensures c.loop-name-test.false c.loop-name.invariant
