-- What a finder holds: for each organisation, index and object its pairs.
use Rattle.std.specs.Prelude.{◌≤◌, ◌+◌, ◌&&◌, ◌||◌, ℕ, Bool, not, List, Option, Some, None, bytes_eq}
use Rattle.search_query.specs.Pair.{Pair, lists}
use Rattle.object_finder.specs.declared.scopes.Scope.{Scope}

-- by the organisation, the word of the index, and the object's name: whether it holds the object, and of it a pair
pub record Held : Type 0 where
  pub has_object : List ℕ → List ℕ → List ℕ → Bool
  pub has_pair : List ℕ → List ℕ → List ℕ → Pair → Bool

-- the object of this name in a scope is the one of this organisation, index and name
abbrev pub is_at : Scope → List ℕ → List ℕ → List ℕ → List ℕ → Bool
is_at scope name org index other = (bytes_eq scope.org org && bytes_eq scope.index index) && bytes_eq name other

-- one object more, with these pairs
abbrev pub with_object : Scope → List ℕ → List Pair → Held → Held
with_object scope name pairs held = record {
  has_object = λ org index other. is_at scope name org index other || held.has_object org index other;
  has_pair = λ org index other p. (is_at scope name org index other && lists pairs p) || held.has_pair org index other p;
}

-- one object less, with its pairs
abbrev pub without_object : Scope → List ℕ → Held → Held
without_object scope name held = record {
  has_object = λ org index other. not (is_at scope name org index other) && held.has_object org index other;
  has_pair = λ org index other p. not (is_at scope name org index other) && held.has_pair org index other p;
}

-- the object with these pairs and no others, in the place of the one that is there, if it is
abbrev pub in_place : Scope → List ℕ → List Pair → Held → Held
in_place scope name pairs held = with_object scope name pairs (without_object scope name held)

-- how many more objects, pairs and terms (pairs of which no object had one before) fit without memory
pub record Room : Type 0 where
  pub objects : ℕ
  pub pairs : ℕ
  pub terms : ℕ

-- so many more fit. A finder that keeps nothing needs no room
abbrev pub HasRoom : Option Room → ℕ → ℕ → ℕ → Type 0
HasRoom None objects pairs terms = Unit {0}
HasRoom (Some room) objects pairs terms = (objects ≤ room.objects) × (pairs ≤ room.pairs) × (terms ≤ room.terms)

-- the room is what it was, or less by no more than this
abbrev pub LosesRoom : Option Room → Option Room → ℕ → ℕ → ℕ → Type 0
LosesRoom old None objects pairs terms = Unit {0}
LosesRoom None (Some new) objects pairs terms = ⊥
LosesRoom (Some old) (Some new) objects pairs terms =
    (old.objects ≤ new.objects + objects) × (old.pairs ≤ new.pairs + pairs) × (old.terms ≤ new.terms + terms)
