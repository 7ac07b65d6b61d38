use Rattle.dep_solver.proofs.ClashLemmas.{clashes_not}
use Rattle.dep_solver.proofs.clashes.clashing.Goals as goal

pub returns : goal.returns
returns c = clashes_not c.args.masks.now c.args.values c.leaving.result c.leaving.type_inv c.leaving.ensures.zero c.leaving.ensures.leaves
