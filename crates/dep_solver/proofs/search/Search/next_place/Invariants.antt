-- Of the releases that were tried, none goes on but those that were given up, and what was learned is true.
use Rattle.std.proofs.Common.{◌-◌, length}
use Rattle.dep_solver.specs.Conflicts.{KeepsConflicts}
use Rattle.dep_solver.specs.Search.{GoesOn}
use Rattle.dep_solver.proofs.CandidateLemmas.{HasTried}
use Rattle.dep_solver.proofs.search.Search.next_place.Given as goal

abbrev pub invariant-loop-tried : goal.invariant-loop-tried
invariant-loop-tried l = HasTried (GoesOn l.universe l.rules l.roots l.dead l.self.places.items l.name) l.releases l.self.given_up l.tried × KeepsConflicts l.universe l.rules l.roots l.learner.store

abbrev pub decreases-loop-tried : goal.decreases-loop-tried
decreases-loop-tried l = length l.releases - l.tried
