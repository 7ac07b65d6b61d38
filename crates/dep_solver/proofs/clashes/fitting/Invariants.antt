-- Each release before the index that goes alone has its bit.
use Rattle.std.proofs.Common.{◌≡◌, ℕ, []}
use Rattle.std.specs.Int.{bit_at}
use Rattle.dep_solver.specs.declared.universe.Release.{Release}
use Rattle.dep_solver.specs.Search.{Fits}
use Rattle.dep_solver.proofs.ValueLemmas.{BitsBefore}
use Rattle.dep_solver.proofs.clashes.fitting.Given as goal

abbrev pub invariant-loop-index : goal.invariant-loop-index
invariant-loop-index l =
    (bit_at l.values 0 ≡ 1) × BitsBefore (λ (k : ℕ) (release : Release). Fits l.universe l.rules l.roots l.dead [] l.cookbook.name release) l.releases l.index l.values
