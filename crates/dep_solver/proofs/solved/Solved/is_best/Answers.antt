use Rattle.dep_solver.proofs.BestLemmas.{is_best}
use Rattle.dep_solver.proofs.solved.Solved.is_best.Goals as goal

pub returns : goal.returns
returns c = is_best c.args.self.now
