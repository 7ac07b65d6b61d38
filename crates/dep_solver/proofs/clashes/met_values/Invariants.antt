-- Each release before the index that meets the need has its bit.
use Rattle.std.proofs.Common.{ℕ}
use Rattle.version_rules.specs.Meets.{Meets}
use Rattle.dep_solver.specs.declared.universe.Release.{Release}
use Rattle.dep_solver.proofs.ValueLemmas.{BitsBefore}
use Rattle.dep_solver.proofs.clashes.met_values.Given as goal

abbrev pub invariant-loop-index : goal.invariant-loop-index
invariant-loop-index l = BitsBefore (λ (k : ℕ) (release : Release). Meets release.version l.need.constraint) l.releases l.index l.values
