use Rattle.std.proofs.Common.{sym}
use Rattle.dep_solver.specs.Names.{same_name}
use Rattle.dep_solver.proofs.ConflictLemmas.{kept_true}
use Rattle.dep_solver.proofs.WalkLemmas.{name_from_same}
use Rattle.dep_solver.proofs.clashes.named_at.Goals as goal

pub returns : goal.returns
returns c = (
  c.in-Some.cookbook.now,
  sym c.in-Some.ensures,
  name_from_same c.in-Some.cookbook.now.name c.args.name.now (kept_true (same_name c.in-Some.cookbook.now.name c.args.name.now) c.if-ne.ensures),
)
