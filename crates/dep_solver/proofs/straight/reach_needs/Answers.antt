use Rattle.dep_solver.specs.Search.{seen}
use Rattle.dep_solver.proofs.SeenLemmas.{need_added, needs_added}
use Rattle.dep_solver.proofs.straight.reach_needs.Goals as goal

pub loop-need-preserved : goal.loop-need-preserved
loop-need-preserved c = (
  need_added (seen c.loop-need.names.items) (seen c.reach_name.new.names.items) c.args.needs.now c.loop-need.need-index c.need-item.result _
      c.loop-need-test.true c.need-item.is c.loop-need.invariant.0 c.in_ok-reach_name.ensures.names,
  c.in_ok-reach_name.ensures.reached,
)

pub returns-clause-names : goal.returns-clause-names
returns-clause-names c = needs_added (seen c.loop-need.names.items) c.args.needs.now c.loop-need.need-index _ c.loop-need-test.false c.loop-need.invariant.0
