use Rattle.std.proofs.Common.{sym}
use Rattle.dep_solver.proofs.ClashLemmas.{fitting_out}
use Rattle.dep_solver.proofs.clashes.ruled_out.Goals as goal

pub returns : goal.returns
returns c =
    fitting_out c.args.universe.now c.args.rules.now c.args.roots.now c.args.dead.now c.requires c.args.index c.in-Some.cookbook.now c.fitting.result (sym c.in-Some.ensures) c.fitting.type_inv c.fitting.ensures.zero c.fitting.ensures.fit
