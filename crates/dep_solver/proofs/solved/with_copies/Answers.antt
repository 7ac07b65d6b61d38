use Rattle.std.proofs.lemmas.Grind.{merely}
use Rattle.dep_solver.proofs.BestLemmas.{kept_best, kept_in_order}
use Rattle.dep_solver.proofs.solved.with_copies.Goals as goal

pub invariant_of-result-clause-best : goal.invariant_of-result-clause-best
invariant_of-result-clause-best c =
    merely (kept_best c.args.universe.now c.in_ok-universe.universe c.args.rules.now c.in_ok-rules.rules c.args.roots.now c.in_ok-roots.roots c.args.chosen
    c.in_ok-universe.ensures c.in_ok-rules.ensures c.in_ok-roots.ensures c.requires)

pub invariant_of-result-clause-in_order : goal.invariant_of-result-clause-in_order
invariant_of-result-clause-in_order c = kept_in_order c.args.universe.now c.args.rules.now c.args.roots.now c.args.chosen c.requires
