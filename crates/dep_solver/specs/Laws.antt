-- Laws of walks and of solutions.
use Rattle.std.specs.Prelude.{◌≡◌, ◌↔◌, ◌⊎◌, List, [], ◌∷◌, ◌++◌, map, Some, None, IsTrue}
use Rattle.std.specs.List.Sorted.{IsStrictlySortedBy}
use Rattle.doc_tree.specs.Text.{text_cmp}
use Rattle.version_rules.specs.declared.versions.Version.{Version}
use Rattle.dep_solver.specs.declared.roots.Pin.{Pin}
use Rattle.dep_solver.specs.declared.roots.Roots.{Roots}
use Rattle.dep_solver.specs.declared.rules.EnvRules.{EnvRules}
use Rattle.dep_solver.specs.declared.universe.Universe.{Universe}
use Rattle.dep_solver.specs.Best.{IsBest, IsBetter}
use Rattle.dep_solver.specs.Chosen.{best_of, is_allowed, lacking, without_version}
use Rattle.dep_solver.specs.Names.{CookbookName}
use Rattle.dep_solver.specs.Refusals.{AreThose, HasNoVersion, IsLacking}
use Rattle.dep_solver.specs.Solutions.{Choice, IsAllowed, IsSolution, choice_of}
use Rattle.dep_solver.specs.Walks.{IsWalk}

-- both lists are at their end, or both begin with one name
abbrev pub GoOnAlike : List Pin → List Pin → Type 0
GoOnAlike [] [] = Unit {0}
GoOnAlike [] (place ∷ rest) = ⊥
GoOnAlike (place ∷ more) [] = ⊥
GoOnAlike (place ∷ more) (other ∷ rest) = place.name ≡ other.name

-- of two walks that begin with the same places, both go on with one name or both end there
abbrev pub PlacesFixTheNext : Type 0
PlacesFixTheNext =
    (universe : Universe) (roots : List CookbookName) (one other : Choice) (front more rest : List Pin)
    → IsWalk universe roots one (front ++ more) → IsWalk universe roots other (front ++ rest) → GoOnAlike more rest

-- each solution has a walk
abbrev pub SolutionsHaveWalks : Type 0
SolutionsHaveWalks =
    (universe : Universe) (rules : EnvRules) (roots : Roots) (choice : Choice) → IsSolution universe rules roots choice
    → (places : List Pin) × IsWalk universe roots.names choice places

-- two solutions are one, or one of them is better
abbrev pub OneIsBetter : Type 0
OneIsBetter =
    (universe : Universe) (rules : EnvRules) (roots : Roots) (one other : Choice) → IsSolution universe rules roots one → IsSolution universe rules roots other
    → (one ≡ other) ⊎ IsBetter universe roots one other ⊎ IsBetter universe roots other one

-- no solution is better
abbrev pub NoneIsBetter : Universe → EnvRules → Roots → Choice → Type 0
NoneIsBetter universe rules roots choice = (other : Choice) → IsSolution universe rules roots other → ¬ (IsBetter universe roots other choice)

-- the best solution is the one than which none is better
abbrev pub BestIsNoneBetter : Type 0
BestIsNoneBetter =
    (universe : Universe) (rules : EnvRules) (roots : Roots) (choice : Choice)
    → IsBest universe rules roots choice ↔ (IsSolution universe rules roots choice × NoneIsBetter universe rules roots choice)

-- pins are those of the best solution, in the byte order of their names
abbrev pub AreBest : Universe → EnvRules → Roots → List Pin → Type 0
AreBest universe rules roots pins = IsBest universe rules roots (choice_of pins) × IsStrictlySortedBy text_cmp (map (λ pin. pin.name) pins)

-- the function gives the best solution, and none exactly where there is no solution
abbrev pub BestOfIsTheBest : Type 0
BestOfIsTheBest =
    (universe : Universe) (rules : EnvRules) (roots : Roots)
    → ((pins : List Pin) → (best_of universe rules roots ≡ Some pins) ↔ AreBest universe rules roots pins)
    × ((best_of universe rules roots ≡ None) ↔ ((choice : Choice) → ¬ (IsSolution universe rules roots choice)))

-- the test of a version says whether it is allowed
abbrev pub TestOfAllowed : Type 0
TestOfAllowed =
    (universe : Universe) (rules : EnvRules) (roots : Roots) (name : CookbookName) (version : Version)
    → IsTrue (is_allowed universe rules roots name version) ↔ IsAllowed universe rules roots name version

-- the lists of a refusal have the roots that the universe lacks, and those that it has and of which no version is allowed
abbrev pub ListsOfARefusal : Type 0
ListsOfARefusal =
    (universe : Universe) (rules : EnvRules) (roots : Roots)
    → AreThose (IsLacking universe) roots.names (lacking universe roots) × AreThose (HasNoVersion universe rules roots) roots.names (without_version universe rules roots)
