-- What the straight walk keeps beside its places, for the private clauses.
use Rattle.std.specs.Prelude.{◌≡◌, List, [], ◌∷◌, ◌++◌, map, Contains}
use Rattle.version_rules.specs.declared.needs.Need.{Need}
use Rattle.dep_solver.specs.declared.search.Place.{Place}
use Rattle.dep_solver.specs.declared.straight.Needed.{Needed}
use Rattle.dep_solver.specs.declared.straight.Reached.{Reached}
use Rattle.dep_solver.specs.declared.straight.Straight.{Straight}
use Rattle.dep_solver.specs.declared.straight.Taken.{Taken}
use Rattle.dep_solver.specs.Keys.{key_of}
use Rattle.dep_solver.specs.Names.{CookbookName}
use Rattle.dep_solver.specs.Search.{seen}

-- the marks are those of the items, in order, and each is good
pub record Marks {A B : Type 0} (item : A → B) (IsGood : A → Type 0) (items : List B) (marks : List A) : Type 0 where
  pub same : map item marks ≡ items
  pub good : (mark : A) → Contains marks mark → IsGood mark

-- the names that are reached, each with its key
abbrev pub AreReached : List CookbookName → List Reached → Type 0
AreReached = Marks (λ mark. mark.name.now) (λ mark. mark.key ≡ key_of mark.name.now)

-- needs, each with the key of the needed name
abbrev pub AreNeeded : List Need → List Needed → Type 0
AreNeeded = Marks (λ mark. mark.need.now) (λ mark. mark.key ≡ key_of mark.need.now.name)

-- places, each with the key of its name
abbrev pub AreTaken : List Place → List Taken → Type 0
AreTaken = Marks (λ mark. mark.place) (λ mark. mark.key ≡ key_of mark.place.name.now)

-- all that the places need, place by place
abbrev pub all_needs : List Place → List Need
all_needs [] = []
all_needs (place ∷ places) = place.release.now.needs ++ all_needs places

-- the walk has marks of its names, of what its places need, and of its places
pub record IsMarked (walk : Straight) : Type 0 where
  pub reached : AreReached (seen walk.search.names.items) walk.reached.items
  pub needed : AreNeeded (all_needs walk.search.places.items) walk.needed.items
  pub taken : AreTaken walk.search.places.items walk.taken.items
