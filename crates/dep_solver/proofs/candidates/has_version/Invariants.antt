-- No release before the index is open.
use Rattle.std.proofs.Common.{◌≡◌, ℕ, false}
use Rattle.dep_solver.specs.declared.universe.Release.{Release}
use Rattle.dep_solver.specs.Search.{IsChoosable, is_set}
use Rattle.dep_solver.proofs.EachLemmas.{NoneBefore}
use Rattle.dep_solver.proofs.candidates.has_version.Given as goal

abbrev pub invariant-loop-index : goal.invariant-loop-index
invariant-loop-index l = NoneBefore (λ (k : ℕ) (r : Release). (is_set l.flags k ≡ false) × IsChoosable l.rules l.roots l.need r.version) l.releases l.index
