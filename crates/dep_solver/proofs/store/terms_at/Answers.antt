use Rattle.std.proofs.Common.{◌<◌, arith, length, sym}
use Rattle.dep_solver.proofs.store.terms_at.Goals as goal

pub returns-in-Some : goal.returns-in-Some
returns-in-Some c =
    let within : c.args.index < length c.args.conflicts.now = grind (arith, c.in-Some.ensures.lookup.0) in
    (c.in-Some.conflict.now, (c.args.index, within, sym c.in-Some.ensures.lookup.1), sym c.as_slice.ensures.value)
