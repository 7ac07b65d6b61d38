-- Which of two solutions is better, and which is the best.
use Rattle.std.specs.Prelude.{◌≡◌, ◌⊎◌, List, [], ◌∷◌, ◌++◌}
use Rattle.version_rules.specs.declared.versions.Version.{Version}
use Rattle.version_rules.specs.Order.{IsBelow}
use Rattle.dep_solver.specs.declared.roots.Pin.{Pin}
use Rattle.dep_solver.specs.declared.roots.Roots.{Roots}
use Rattle.dep_solver.specs.declared.rules.EnvRules.{EnvRules}
use Rattle.dep_solver.specs.declared.universe.Universe.{Universe}
use Rattle.dep_solver.specs.Names.{CookbookName}
use Rattle.dep_solver.specs.Solutions.{Choice, IsSolution}
use Rattle.dep_solver.specs.Walks.{Begins}

-- the walks are alike up to a place at which the first has the greater version of the same name
pub record IsBetter (universe : Universe) (roots : Roots) (one other : Choice) : Type 0 where
  pub alike : List Pin
  pub name : CookbookName
  pub greater : Version
  pub less : Version
  pub below : IsBelow less greater
  pub one_walk : Begins universe roots.names one (alike ++ record { name = name; version = greater } ∷ [])
  pub other_walk : Begins universe roots.names other (alike ++ record { name = name; version = less } ∷ [])

-- a solution that is better than every other
pub record IsBest (universe : Universe) (rules : EnvRules) (roots : Roots) (choice : Choice) : Type 0 where
  pub solution : IsSolution universe rules roots choice
  pub best : (other : Choice) → IsSolution universe rules roots other → (other ≡ choice) ⊎ IsBetter universe roots choice other
