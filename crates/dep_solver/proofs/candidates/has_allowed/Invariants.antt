-- No release before the index meets the pins and the rules.
use Rattle.dep_solver.specs.declared.universe.Release.{Release}
use Rattle.dep_solver.specs.Search.{MeetsAll}
use Rattle.dep_solver.proofs.EachLemmas.{EachBefore}
use Rattle.dep_solver.proofs.candidates.has_allowed.Given as goal

abbrev pub invariant-loop-release : goal.invariant-loop-release
invariant-loop-release l = EachBefore (λ (r : Release). ¬ (MeetsAll l.rules l.roots l.name r.version)) l.releases l.release-index
