use Rattle.std.proofs.Common.{IsPermutation, List, map, sym, subst}
use Rattle.dep_solver.specs.Search.{pin_of}
use Rattle.dep_solver.specs.declared.roots.Pin.{Pin}
use Rattle.dep_solver.proofs.SolvedLemmas.{pin_added, pins_moved}
use Rattle.dep_solver.proofs.solved.in_byte_order.Goals as goal

pub loop-place-preserved : goal.loop-place-preserved
loop-place-preserved c =
    pin_added c.loop-place.pins.items c.push.new.self.items c.args.places.now c.loop-place.place-index c.place-item.result _
    c.loop-place-test.true c.place-item.is c.loop-place.invariant (λ i. record { name = c.in_ok-copy.ensures i; version = c.place-item.result.release.now.version }) c.in_ok-push.ensures.items

pub returns-clause-chosen : goal.returns-clause-chosen
returns-clause-chosen c =
    subst (λ (ps : List Pin). IsPermutation (map pin_of c.args.places.now) ps) (sym c.of.ensures)
    (pins_moved c.loop-place.pins.items c.sort_unstable.new.self.items c.args.places.now c.loop-place.place-index c.loop-place-test.false c.loop-place.invariant c.sort_unstable.ensures.permutation)
