-- Solutions: the choices of versions that hold the roots and all that the chosen versions need, and nothing else.
use Rattle.std.specs.Prelude.{◌≡◌, List, map, Contains, Some, IsSome}
use Rattle.std.specs.FinMap as finite
use Rattle.doc_tree.specs.Text.{text_cmp}
use Rattle.version_rules.specs.declared.needs.Need.{Need}
use Rattle.version_rules.specs.declared.versions.Version.{Version}
use Rattle.version_rules.specs.Meets.{Meets}
use Rattle.dep_solver.specs.declared.roots.Pin.{Pin}
use Rattle.dep_solver.specs.declared.roots.Roots.{Roots}
use Rattle.dep_solver.specs.declared.rules.EnvRules.{EnvRules}
use Rattle.dep_solver.specs.declared.universe.Universe.{Universe}
use Rattle.dep_solver.specs.Names.{CookbookName}
use Rattle.dep_solver.specs.Universes.{needs_in, releases_in}

-- a choice: a finite map from names to versions
abbrev pub Choice : Type 0
Choice = finite.FinMap text_cmp Version

-- the choice that has the version of each of these names
abbrev pub choice_of : List Pin → Choice
choice_of places = finite.from_entries (map (λ p. (p.name, p.version)) places)

-- the version of a name is released, is the one to which each pin holds the name, and meets each rule on it
pub record IsAllowed (universe : Universe) (rules : EnvRules) (roots : Roots) (name : CookbookName) (version : Version) : Type 0 where
  pub released : Contains (map (λ r. r.version) (releases_in universe name)) version
  pub meets_pins : (pin : Pin) → Contains roots.pins pin → pin.name ≡ name → version ≡ pin.version
  pub meets_rules : (rule : Need) → Contains rules.rules rule → rule.name ≡ name → Meets version rule.constraint

-- the choice has the needed name at a version that meets the need
abbrev pub IsMet : Choice → Need → Type 0
IsMet choice need = (version : Version) × (finite.get choice need.name ≡ Some version) × Meets version need.constraint

-- a name that is a root, or that a chosen version of a reached name needs
pub data IsReached (universe : Universe) (roots : List CookbookName) (choice : Choice) : CookbookName → Type 0 where
  by_root : {name : CookbookName} → Contains roots name → IsReached universe roots choice name
  by_need : {name : CookbookName} {version : Version} {of : Need} → IsReached universe roots choice name → finite.get choice name ≡ Some version
      → Contains (needs_in universe name version) of → IsReached universe roots choice of.name

-- a choice that holds every root, has versions that are allowed, meets every need of each, and has only names that are reached
pub record IsSolution (universe : Universe) (rules : EnvRules) (roots : Roots) (choice : Choice) : Type 0 where
  pub holds_roots : (name : CookbookName) → Contains roots.names name → IsSome (finite.get choice name)
  pub allowed : (name : CookbookName) (version : Version) → finite.get choice name ≡ Some version → IsAllowed universe rules roots name version
  pub meets_needs : (name : CookbookName) (version : Version) → finite.get choice name ≡ Some version → (need : Need) → Contains (needs_in universe name version) need → IsMet choice need
  pub reached : (name : CookbookName) (version : Version) → finite.get choice name ≡ Some version → IsReached universe roots.names choice name
