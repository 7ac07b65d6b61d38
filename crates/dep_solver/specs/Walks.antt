-- Walks: a choice as the list of its names and versions, breadth first from the roots.
use Rattle.std.specs.Prelude.{◌≡◌, List, [], ◌∷◌, ◌++◌, ⊤, length, slice_get, if◌then◌else◌, Contains, Option, Some, None}
use Rattle.std.specs.FinMap as finite
use Rattle.std.specs.Set.{is_member}
use Rattle.version_rules.specs.declared.needs.Need.{Need}
use Rattle.dep_solver.specs.declared.roots.Pin.{Pin}
use Rattle.dep_solver.specs.declared.universe.Universe.{Universe}
use Rattle.dep_solver.specs.Names.{CookbookName, same_name}
use Rattle.dep_solver.specs.Solutions.{Choice}
use Rattle.dep_solver.specs.Universes.{needs_in}

-- the names, and this one behind them where it is new
abbrev pub with_name : List CookbookName → CookbookName → List CookbookName
with_name names name = if is_member same_name names name then names else names ++ name ∷ []

-- the names, and behind them each that is needed, in order, where it is new
abbrev pub with_needs : List CookbookName → List Need → List CookbookName
with_needs names [] = names
with_needs names (need ∷ needs) = with_needs (with_name names need.name) needs

-- the names, and behind them what each place needs, place by place, where it is new
abbrev pub with_places : Universe → List CookbookName → List Pin → List CookbookName
with_places universe names [] = names
with_places universe names (place ∷ places) = with_places universe (with_needs names (needs_in universe place.name place.version)) places

-- the name at the next place of a walk that begins with these, and none where it ends with them
abbrev pub next : Universe → List CookbookName → List Pin → Option CookbookName
next universe roots places = slice_get (with_places universe roots places) (length places)

-- each place has the name that is next after those before it
abbrev pub Follow : Universe → List CookbookName → List Pin → List Pin → Type 0
Follow universe roots before [] = ⊤
Follow universe roots before (place ∷ places) = (next universe roots before ≡ Some place.name) × Follow universe roots (before ++ place ∷ []) places

-- the choice has the version of each place
abbrev pub Holds : Choice → List Pin → Type 0
Holds choice places = (place : Pin) → Contains places place → finite.get choice place.name ≡ Some place.version

-- the walk of the choice begins with these places
pub record Begins (universe : Universe) (roots : List CookbookName) (choice : Choice) (places : List Pin) : Type 0 where
  pub names : Follow universe roots [] places
  pub versions : Holds choice places

-- the walk of the choice is these places
pub record IsWalk (universe : Universe) (roots : List CookbookName) (choice : Choice) (places : List Pin) : Type 0 where
  pub begins : Begins universe roots choice places
  pub ends : next universe roots places ≡ None
