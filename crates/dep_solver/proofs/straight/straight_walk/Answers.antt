use Rattle.std.proofs.Common.{sym}
use Rattle.dep_solver.proofs.DeadLemmas.{none_dead}
use Rattle.dep_solver.proofs.LoopLemmas.{begun, chose, chose_nearer, found}
use Rattle.dep_solver.proofs.straight.straight_walk.Goals as goal

pub loop-name-init : goal.loop-name-init
loop-name-init c = (begun c.args.universe.now c.args.rules.now c.args.roots.now c.in_ok-walk.walk.search c.in_ok-walk.ensures.begins, c.in_ok-walk.ensures.marked)

pub loop-name-preserved : goal.loop-name-preserved
loop-name-preserved c = (
  chose c.args.universe.now c.args.rules.now c.args.roots.now c.new-dead.result (none_dead c.args.universe.now c.args.rules.now c.args.roots.now c.new-dead.result c.new-dead.ensures) c.loop-name.walk.search c.choose.new.self.search c.in-Some.name.now c.in-Some-greatest_place.place
      c.loop-name.invariant.0 (sym c.in-Some.ensures) c.in-Some-greatest_place.ensures c.in_ok-choose.ensures.chosen,
  c.in_ok-choose.ensures.marked,
)

pub loop-name-smaller : goal.loop-name-smaller
loop-name-smaller c =
    chose_nearer c.args.universe.now c.args.rules.now c.args.roots.now c.new-dead.result (none_dead c.args.universe.now c.args.rules.now c.args.roots.now c.new-dead.result c.new-dead.ensures) c.loop-name.walk.search c.choose.new.self.search c.in-Some.name.now c.in-Some-greatest_place.place
    c.loop-name.invariant.0 (sym c.in-Some.ensures) c.in-Some-greatest_place.ensures c.in_ok-choose.ensures.chosen

pub returns : goal.returns
returns c = found c.args.universe.now c.args.rules.now c.args.roots.now c.loop-name.walk.search c.loop-name.invariant.0 (sym c.in_default.ensures)
