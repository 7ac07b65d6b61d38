use Rattle.dep_solver.proofs.ConflictLemmas.{places_have}
use Rattle.dep_solver.proofs.conflicts.have_one.Goals as goal

pub returns-then-does_have : goal.returns-then-does_have
returns-then-does_have c = λ _.
    places_have c.args.universe.now c.args.places.now c.loop-place.place-index c.place-item.result c.args.term.now c.loop-place-test.true c.place-item.is (c.does_have.ensures c.if-does_have.true)
