-- What the search learns: cookbooks with some of their values, of which no solution has all.
use Rattle.std.specs.Prelude.{◌≡◌, ◌⊎◌, ◌<◌, ◌-◌, ℕ, min, length, List, [], ◌∷◌, map, Contains, Some, slice_get}
use Rattle.std.specs.Int.{bit_at}
use Rattle.std.specs.FinMap as finite
use Rattle.version_rules.specs.declared.needs.Need.{Need}
use Rattle.version_rules.specs.declared.versions.Version.{Version}
use Rattle.version_rules.specs.Meets.{Meets}
use Rattle.dep_solver.specs.declared.conflicts.Conflict.{Conflict}
use Rattle.dep_solver.specs.declared.conflicts.Term.{Term}
use Rattle.dep_solver.specs.declared.roots.Roots.{Roots}
use Rattle.dep_solver.specs.declared.rules.EnvRules.{EnvRules}
use Rattle.dep_solver.specs.declared.search.Place.{Place}
use Rattle.dep_solver.specs.declared.store.Store.{Store}
use Rattle.dep_solver.specs.declared.universe.Cookbook.{Cookbook}
use Rattle.dep_solver.specs.declared.universe.Release.{Release}
use Rattle.dep_solver.specs.declared.universe.Universe.{Universe}
use Rattle.dep_solver.specs.Names.{CookbookName}
use Rattle.dep_solver.specs.Search.{Fits, Flags, pin_of}
use Rattle.dep_solver.specs.Solutions.{Choice, IsMet, IsSolution}
use Rattle.dep_solver.specs.Universes.{releases_in}
use Rattle.dep_solver.specs.Values.{value_at}
use Rattle.dep_solver.specs.Walks.{Holds}

-- each cookbook has a value, below 64
abbrev pub Values : Type 0
Values = ℕ → ℕ

-- the values have the term
abbrev pub HasTerm : Values → Term → Type 0
HasTerm taken term = bit_at term.values (taken term.cookbook) ≡ 1

-- the values have each of the terms
abbrev pub HasAll : Values → List Term → Type 0
HasAll taken terms = (term : Term) → Contains terms term → HasTerm taken term

-- no solution has all of the terms
abbrev pub IsConflict : Universe → EnvRules → Roots → List Term → Type 0
IsConflict universe rules roots terms = (choice : Choice) → IsSolution universe rules roots choice → ¬ (HasAll (value_at universe choice) terms)

-- each of these is a conflict
abbrev pub AreConflicts : Universe → EnvRules → Roots → List Conflict → Type 0
AreConflicts universe rules roots conflicts = (conflict : Conflict) → Contains conflicts conflict → IsConflict universe rules roots conflict.terms.items

-- values below 64 that have all of the new terms have all of the one or all of the other
abbrev pub Resolves : List Term → List Term → List Term → Type 0
Resolves one other new = (taken : Values) → ((index : ℕ) → taken index < 64) → HasAll taken new → HasAll taken one ⊎ HasAll taken other

-- a value below 64 that is among these is in each term on the cookbook
abbrev pub AllowsEach : List Term → ℕ → ℕ → Type 0
AllowsEach terms cookbook values = (value : ℕ) → value < 64 → bit_at values value ≡ 1 → (term : Term) → Contains terms term → term.cookbook ≡ cookbook → bit_at term.values value ≡ 1

-- values that have the new terms have the old ones and the term
abbrev pub Adds : List Term → Term → List Term → Type 0
Adds old term new = (taken : Values) → HasAll taken new → HasAll taken old × HasTerm taken term

-- values that have the new terms have the old ones, and each of the others on other cookbooks
abbrev pub AddsOthers : List Term → ℕ → List Term → List Term → Type 0
AddsOthers others cookbook old new =
    (taken : Values) → HasAll taken new → HasAll taken old × ((term : Term) → Contains others term → ¬ (term.cookbook ≡ cookbook) → HasTerm taken term)

-- a place has the term
abbrev pub PlaceHas : Universe → Place → Term → Type 0
PlaceHas universe place term = (choice : Choice) → finite.get choice place.name.now ≡ Some place.release.now.version → HasTerm (value_at universe choice) term

-- a choice with these places has the term
abbrev pub PlacesHave : Universe → List Place → Term → Type 0
PlacesHave universe places term = (choice : Choice) → Holds choice (map pin_of places) → HasTerm (value_at universe choice) term

-- a choice with these places has all of the terms
abbrev pub PlacesHaveAll : Universe → List Place → List Term → Type 0
PlacesHaveAll universe places terms = (term : Term) → Contains terms term → PlacesHave universe places term

-- the cookbook at an index has the name
abbrev pub IsAt : Universe → ℕ → CookbookName → Type 0
IsAt universe index name = (cookbook : Cookbook) × (slice_get universe.cookbooks index ≡ Some cookbook) × (cookbook.name ≡ name)

-- no solution has one of the values of a cookbook
abbrev pub IsRuledOut : Universe → EnvRules → Roots → ℕ → ℕ → Type 0
IsRuledOut universe rules roots cookbook values = (choice : Choice) → IsSolution universe rules roots choice → ¬ (bit_at values (value_at universe choice cookbook) ≡ 1)

-- each release of a cookbook that goes alone is among the values
abbrev pub AreFitting : Universe → EnvRules → Roots → Flags → Cookbook → ℕ → Type 0
AreFitting universe rules roots dead cookbook values =
    (index : ℕ) (release : Release) → slice_get cookbook.releases index ≡ Some release → Fits universe rules roots dead [] cookbook.name release → bit_at values (min (length cookbook.releases - index) 63) ≡ 1

-- each version of the choice is released
abbrev pub AreReleased : Universe → Choice → Type 0
AreReleased universe choice =
    (name : CookbookName) (version : Version) → finite.get choice name ≡ Some version → Contains (map (λ (release : Release). release.version) (releases_in universe name)) version

-- a choice that meets all needs of the release has one of the values of a cookbook
abbrev pub IsMask : Universe → ℕ → Release → ℕ → Type 0
IsMask universe cookbook release values =
    (choice : Choice) → AreReleased universe choice → ((need : Need) → Contains release.needs need → IsMet choice need) → bit_at values (value_at universe choice cookbook) ≡ 1

-- each release that meets the need is among the values
abbrev pub MeetsAt : List Release → Need → ℕ → Type 0
MeetsAt releases need values = (index : ℕ) (release : Release) → slice_get releases index ≡ Some release → Meets release.version need.constraint → bit_at values (min (length releases - index) 63) ≡ 1

-- each release that leaves one of the values is found
abbrev pub Leaves : List ℕ → ℕ → ℕ → Type 0
Leaves masks values found =
    (index mask value : ℕ) → slice_get masks index ≡ Some mask → value < 64 → bit_at mask value ≡ 1 → bit_at values value ≡ 1 → bit_at found (min (length masks - index) 63) ≡ 1

-- the found releases, of which each value is one, leave none of the values
pub record Clashes (masks : List ℕ) (values found : ℕ) : Type 0 where
  pub chosen : ¬ (bit_at found 0 ≡ 1)
  pub clash : (index mask value : ℕ) → slice_get masks index ≡ Some mask → bit_at found (min (length masks - index) 63) ≡ 1 → value < 64 → bit_at mask value ≡ 1 → ¬ (bit_at values value ≡ 1)

-- terms on one cookbook, whose values leave none of the values of the other, and on the other
abbrev pub AreClash : List ℕ → ℕ → ℕ → ℕ → List Term → Type 0
AreClash masks index other values terms =
    (found : ℕ) × Clashes masks values found × (terms ≡ record { cookbook = index; values = found } ∷ record { cookbook = other; values = values } ∷ [])

-- all that is kept is a conflict
abbrev pub KeepsConflicts : Universe → EnvRules → Roots → Store → Type 0
KeepsConflicts universe rules roots store = AreConflicts universe rules roots store.known.items × AreConflicts universe rules roots store.learned.items

-- the terms are those of one of the conflicts
abbrev pub IsAmong : List Conflict → List Term → Type 0
IsAmong conflicts terms = (conflict : Conflict) × Contains conflicts conflict × (conflict.terms.items ≡ terms)

-- where all that is kept is a conflict, the terms are one
abbrev pub Follows : Store → List Term → Type 0
Follows store terms = (universe : Universe) (rules : EnvRules) (roots : Roots) → KeepsConflicts universe rules roots store → IsConflict universe rules roots terms

-- where all that was kept is a conflict, all that is kept now is one
abbrev pub Grows : Store → Store → Type 0
Grows old new = (universe : Universe) (rules : EnvRules) (roots : Roots) → KeepsConflicts universe rules roots old → KeepsConflicts universe rules roots new

-- where all that was kept is a conflict, and the terms are one, all that is kept now is one
abbrev pub GrowsBy : Store → List Term → Store → Type 0
GrowsBy old terms new = (universe : Universe) (rules : EnvRules) (roots : Roots) → KeepsConflicts universe rules roots old → IsConflict universe rules roots terms → KeepsConflicts universe rules roots new
