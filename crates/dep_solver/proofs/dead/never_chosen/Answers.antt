use Rattle.dep_solver.proofs.DeadLemmas.{never_next, none_dead}
use Rattle.dep_solver.proofs.dead.never_chosen.Goals as goal

pub loop-init : goal.loop-init
loop-init c = none_dead c.args.universe.now c.args.rules.now c.args.roots.now c.new-dead.result c.new-dead.ensures

pub loop-preserved : goal.loop-preserved
loop-preserved c = never_next c.args.universe.now c.args.rules.now c.args.roots.now c.loop.dead c.in_ok-dead.dead c.loop.invariant c.in_ok-dead.ensures

pub returns-then-found-count : goal.returns-then-found-count
returns-then-found-count c = never_next c.args.universe.now c.args.rules.now c.args.roots.now c.loop.dead c.in_ok-dead.dead c.loop.invariant c.in_ok-dead.ensures
