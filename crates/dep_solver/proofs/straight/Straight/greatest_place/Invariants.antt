-- Of the releases that were tried, none goes on but those that were given up.
use Rattle.std.proofs.Common.{◌-◌, length}
use Rattle.dep_solver.specs.Search.{GoesOn}
use Rattle.dep_solver.proofs.CandidateLemmas.{HasTried}
use Rattle.dep_solver.proofs.straight.Straight.greatest_place.Given as goal

abbrev pub invariant-loop-tried : goal.invariant-loop-tried
invariant-loop-tried l = HasTried (GoesOn l.universe l.rules l.roots l.dead l.self.search.places.items l.name) l.releases l.self.search.given_up l.tried

abbrev pub decreases-loop-tried : goal.decreases-loop-tried
decreases-loop-tried l = length l.releases - l.tried
