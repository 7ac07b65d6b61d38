-- What the search finds, for the private clauses.
use Rattle.std.specs.Prelude.{◌≡◌, ℕ, ◌+◌, ◌<◌, List, [], ◌∷◌, ◌++◌, map, take, length, slice_get, Contains, Option, Some, None, Bool, true, false, unwrap_or, if◌then◌else◌}
use Rattle.std.specs.declared.vec.Vec.{Vec}
use Rattle.version_rules.specs.declared.needs.Need.{Need}
use Rattle.version_rules.specs.declared.versions.Version.{Version}
use Rattle.version_rules.specs.Meets.{Meets}
use Rattle.version_rules.specs.Order.{version_cmp}
use Rattle.std.specs.Ordering.{ordering_then}
use Rattle.std.specs.declared.cmp.Ordering.{Ordering}
use Rattle.dep_solver.specs.declared.roots.Pin.{Pin}
use Rattle.dep_solver.specs.declared.roots.Roots.{Roots}
use Rattle.dep_solver.specs.declared.rules.EnvRules.{EnvRules}
use Rattle.dep_solver.specs.declared.search.Place.{Place}
use Rattle.std.specs.FinMap as finite
use Rattle.dep_solver.specs.declared.universe.Cookbook.{Cookbook}
use Rattle.dep_solver.specs.declared.universe.Release.{Release}
use Rattle.dep_solver.specs.declared.universe.Universe.{Universe}
use Rattle.dep_solver.specs.Best.{IsBest}
use Rattle.dep_solver.specs.Names.{CookbookName, same_name}
use Rattle.dep_solver.specs.Solutions.{Choice, IsSolution, choice_of}
use Rattle.dep_solver.specs.Universes.{releases_in}
use Rattle.dep_solver.specs.Walks.{Follow, Holds, with_needs}
use Rattle.std.specs.Borrow.{Bor}
use Rattle.doc_tree.specs.Text.{text_cmp}
use Rattle.doc_tree.specs.declared.name.Name.{Name}
use Rattle.dep_solver.specs.declared.search.Search.{Search}

-- the name and the version of a place
abbrev pub pin_of : Place → Pin
pin_of place = record { name = place.name.now; version = place.release.now.version }

-- the places are the walk of the best solution: a walk of distinct names, whose choice is the best
pub record FindsBest (universe : Universe) (rules : EnvRules) (roots : Roots) (places : List Pin) : Type 0 where
  pub best : IsBest universe rules roots (choice_of places)
  pub follow : Follow universe roots.names [] places

-- the best solution's places, or none where there is no solution
abbrev pub Finds : {Z : Type 0} → Universe → EnvRules → Roots → Option (Vec Place Z) → Type 0
Finds universe rules roots (Some places) = FindsBest universe rules roots (map pin_of places.items)
Finds universe rules roots None = (choice : Choice) → ¬ (IsSolution universe rules roots choice)

-- a version of a name meets the pins and the rules
pub record MeetsAll (rules : EnvRules) (roots : Roots) (name : CookbookName) (version : Version) : Type 0 where
  pub meets_pins : (pin : Pin) → Contains roots.pins pin → pin.name ≡ name → version ≡ pin.version
  pub meets_rules : (rule : Need) → Contains rules.rules rule → rule.name ≡ name → Meets version rule.constraint

-- a version meets a need, the pins and the rules
pub record IsChoosable (rules : EnvRules) (roots : Roots) (need : Need) (version : Version) : Type 0 where
  pub meets : Meets version need.constraint
  pub meets_all : MeetsAll rules roots need.name version

-- flags of releases, cookbook by cookbook in the order of the universe, and release by release: a set one is in no solution
abbrev pub Flags : Type 0
Flags = List (List Bool)

-- the flags of the releases of a name, and none where there are no flags for it
abbrev pub flags_of : List Cookbook → Flags → CookbookName → List Bool
flags_of [] flags name = []
flags_of (c ∷ cookbooks) [] name = []
flags_of (c ∷ cookbooks) (f ∷ flags) name = if same_name c.name name then f else flags_of cookbooks flags name

-- the flag at an index is set
abbrev pub is_set : List Bool → ℕ → Bool
is_set flags index = unwrap_or (slice_get flags index) false

-- a version that a need has: a release that isn't flagged, and that meets the need, the pins and the rules
pub record CanMeet (universe : Universe) (rules : EnvRules) (roots : Roots) (dead : Flags) (need : Need) : Type 0 where
  pub index : ℕ
  pub release : Release
  pub stands : slice_get (releases_in universe need.name) index ≡ Some release
  pub alive : is_set (flags_of universe.cookbooks dead need.name) index ≡ false
  pub choosable : IsChoosable rules roots need release.version

-- no flagged release is in a solution
abbrev pub AreNeverChosen : Universe → EnvRules → Roots → Flags → Type 0
AreNeverChosen universe rules roots dead =
    (name : CookbookName) (index : ℕ) (release : Release) → slice_get (releases_in universe name) index ≡ Some release → is_set (flags_of universe.cookbooks dead name) index ≡ true
    → (choice : Choice) → IsSolution universe rules roots choice → ¬ (finite.get choice name ≡ Some release.version)

-- a release is flagged only where one of its needs has no version
abbrev pub IsFlag : Universe → EnvRules → Roots → Flags → Release → Bool → Type 0
IsFlag universe rules roots dead release flag = flag ≡ true → ¬ ((need : Need) → Contains release.needs need → CanMeet universe rules roots dead need)

-- each of the ones stands to the other at its place as R says
abbrev pub Zips : {A B : Type 0} → (A → B → Type 0) → List A → List B → Type 0
Zips {A} {B} R ones others = (k : ℕ) (one : A) (other : B) → slice_get ones k ≡ Some one → slice_get others k ≡ Some other → R one other

-- the flags of one cookbook, and of all
abbrev pub AreFlagsOf : Universe → EnvRules → Roots → Flags → Cookbook → List Bool → Type 0
AreFlagsOf universe rules roots dead cookbook flags = Zips (IsFlag universe rules roots dead) cookbook.releases flags

-- a release of a name goes with the places that were chosen
pub record Fits (universe : Universe) (rules : EnvRules) (roots : Roots) (dead : Flags) (places : List Place) (name : CookbookName) (release : Release) : Type 0 where
  pub meets_pins : (pin : Pin) → Contains roots.pins pin → pin.name ≡ name → release.version ≡ pin.version
  pub meets_rules : (rule : Need) → Contains rules.rules rule → rule.name ≡ name → Meets release.version rule.constraint
  pub meets_places : (place : Place) → Contains places place → (need : Need) → Contains place.release.now.needs need → need.name ≡ name → Meets release.version need.constraint
  pub meets_itself : (need : Need) → Contains release.needs need → need.name ≡ name → Meets release.version need.constraint
  pub places_meet : (need : Need) → Contains release.needs need → (place : Place) → Contains places place → place.name.now ≡ need.name → Meets place.release.now.version need.constraint
  pub needs_can_be_met : (need : Need) → Contains release.needs need → CanMeet universe rules roots dead need

-- a release of a name goes with the places, and a solution has all of them
pub record GoesOn (universe : Universe) (rules : EnvRules) (roots : Roots) (dead : Flags) (places : List Place) (name : CookbookName) (release : Release) : Type 0 where
  pub fits : Fits universe rules roots dead places name release
  pub choice : Choice
  pub solution : IsSolution universe rules roots choice
  pub holds : Holds choice (map pin_of places)
  pub has : finite.get choice name ≡ Some release.version

-- a place of a name at the greatest of its releases that goes on, behind those of which so many were given up
pub record IsGreatest (universe : Universe) (rules : EnvRules) (roots : Roots) (dead : Flags) (places : List Place) (name : CookbookName) (releases : List Release) (given_up reached : ℕ) (place : Place) : Type 0 where
  pub of_name : place.name.now ≡ name
  pub before : place.reached ≡ reached
  pub fits : Fits universe rules roots dead places name place.release.now
  pub index : ℕ
  pub stands : slice_get releases index ≡ Some place.release.now
  pub counted : index + place.tried ≡ length releases
  pub left : index + given_up < length releases
  pub greater : (other : ℕ) (release : Release) → index < other → other + given_up < length releases → slice_get releases other ≡ Some release → ¬ (GoesOn universe rules roots dead places name release)

-- no release goes on but those that were given up
abbrev pub NoneGoesOn : Universe → EnvRules → Roots → Flags → List Place → CookbookName → List Release → ℕ → Type 0
NoneGoesOn universe rules roots dead places name releases given_up =
    (index : ℕ) (release : Release) → index + given_up < length releases → slice_get releases index ≡ Some release → ¬ (GoesOn universe rules roots dead places name release)

-- the order of names and versions: by the name, and then by the version
abbrev pub pin_cmp : Pin → Pin → Ordering
pin_cmp p q = ordering_then (text_cmp p.name q.name) (version_cmp p.version q.version)

-- the names behind references
abbrev pub seen : List (Bor Name) → List CookbookName
seen names = map (λ n. n.now) names

-- a search that has done nothing: the roots are reached
pub record Begins (roots : Roots) (search : Search) : Type 0 where
  pub names : seen search.names.items ≡ roots.names
  pub places : search.places.items ≡ []
  pub given_up : search.given_up ≡ 0

-- the place is behind the others, and what its release needs is reached
pub record Chooses (old : Search) (place : Place) (new : Search) : Type 0 where
  pub names : seen new.names.items ≡ with_needs (seen old.names.items) place.release.now.needs
  pub places : new.places.items ≡ old.places.items ++ place ∷ []
  pub given_up : new.given_up ≡ 0

-- the last place is gone with the names that were reached by it, and its releases that were tried are given up
pub record GivesUp (old new : Search) : Type 0 where
  pub last : Place
  pub places : old.places.items ≡ new.places.items ++ last ∷ []
  pub names : new.names.items ≡ take last.reached old.names.items
  pub given_up : new.given_up ≡ last.tried
