use Rattle.dep_solver.specs.Search.{seen}
use Rattle.dep_solver.proofs.SeenLemmas.{need_added, needs_added}
use Rattle.dep_solver.proofs.search.add_needs.Goals as goal

pub loop-need-preserved : goal.loop-need-preserved
loop-need-preserved c =
    need_added (seen c.loop-need.names.items) (seen c.add_name.new.names.items) c.args.needs.now c.loop-need.need-index c.need-item.result _
    c.loop-need-test.true c.need-item.is c.loop-need.invariant c.in_ok-add_name.ensures

pub returns : goal.returns
returns c = needs_added (seen c.loop-need.names.items) c.args.needs.now c.loop-need.need-index _ c.loop-need-test.false c.loop-need.invariant
