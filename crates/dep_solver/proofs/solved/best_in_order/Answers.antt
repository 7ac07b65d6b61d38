use Rattle.std.proofs.Common.{map, refl}
use Rattle.dep_solver.specs.Search.{pin_of}
use Rattle.dep_solver.proofs.ChosenLemmas.{best_of_to}
use Rattle.dep_solver.proofs.SolvedLemmas.{best_moved, in_order}
use Rattle.dep_solver.proofs.solved.best_in_order.Goals as goal

pub returns : goal.returns
returns c =
    best_of_to c.args._universe.now c.args._rules.now c.args._roots.now c.in_ok-chosen.chosen (
      best_moved c.args._universe.now c.args._universe.now c.args._rules.now c.args._rules.now c.args._roots.now c.args._roots.now (map pin_of c.args.places.now) c.in_ok-chosen.chosen refl refl refl c.requires c.in_ok-chosen.ensures.chosen,
      in_order c.args._universe.now c.args._rules.now c.args._roots.now (map pin_of c.args.places.now) c.in_ok-chosen.chosen c.requires c.in_ok-chosen.ensures.chosen c.in_ok-chosen.ensures.in_order,
    )
