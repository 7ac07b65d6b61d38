-- What the calls of the index do to what is held.
use Rattle.std.proofs.Common.{◌≡◌, ◌⊎◌, ◌↔◌, ◌&&◌, ◌||◌, ℕ, not, List, Some, IsTrue, bytes_eq, ap, inl, inr}
use Rattle.object_finder.specs.declared.scopes.Scope.{Scope as Named}
use Rattle.object_finder.specs.Held.{HasRoom, LosesRoom, in_place, is_at, without_object}
use Rattle.search_index.proofs.CallerLemmas.{holds_object, listed_member}
use Rattle.search_index.specs.Arena.{Contents, DropsObject, IsEmpty, ReplacesObject, SameObjects}
use Rattle.search_index.specs.Arena as arena
use Rattle.search_index.specs.declared.scope.Scope.{Scope}
use Rattle.search_query.specs.Pair.{Pair, lists}
use Rattle.shard_core.specs.Holding.{held_of, in_site, is_posted, is_there, nothing, room_in, scope_of}
use Rattle.shard_core.proofs.HoldingLemmas.{posted_told, there_told}
use Rattle.shard_core.proofs.SlotLemmas.{both_told, either_told, never_told, not_told, one_test, text_told}

-- ---- what stays, comes and goes

-- the same objects are held as the same
pub held_same : (old new : Contents) → SameObjects old new → held_of new ≡ held_of old
unfolding held_of
held_same old new same = λ i. record {
  has_object = λ org index name. one_test (is_there new (scope_of org index) name) (is_there old (scope_of org index) name) (there_told new (scope_of org index) name) (there_told old (scope_of org index) name) (same.objects (scope_of org index) name) i;
  has_pair = λ org index name p. one_test (is_posted new (scope_of org index) name p) (is_posted old (scope_of org index) name p) (posted_told new (scope_of org index) name p) (posted_told old (scope_of org index) name p) (same.pairs (scope_of org index) name p) i;
}

-- the object of this scope and name is told
at_told : (scope : Named) (name org index other : List ℕ) → IsTrue (is_at scope name org index other) ↔ ((scope_of org index ≡ in_site scope) × (other ≡ name))
at_told scope name org index other =
    let told = both_told (bytes_eq scope.org org && bytes_eq scope.index index) (bytes_eq name other) (both_told (bytes_eq scope.org org) (bytes_eq scope.index index) (text_told scope.org org) (text_told scope.index index)) (text_told name other) in (
      λ is. let h = told.0 is in (λ i. scope_of (h.0.0 i) (h.0.1 i), h.1),
      λ h. told.1 ((ap (λ (s : Scope). s.org) h.0, ap (λ (s : Scope). s.index) h.0), h.1),
    )

here_or_before : {H O E N : Type 0} → H ↔ ((O × N) ⊎ E) → H ↔ (E ⊎ (N × O))
here_or_before same = (λ h. elim (same.0 h) [ inl o ↦ inr (o.1, o.0) | inr e ↦ inl e ], λ h. same.1 (elim h [ inl e ↦ inr e | inr o ↦ inl (o.1, o.0) ]))

listed_or_before : {H O A B M N : Type 0} → H ↔ ((O × N) ⊎ (A × B × M)) → H ↔ (((A × B) × M) ⊎ (N × O))
listed_or_before same = (
  λ h. elim (same.0 h) [ inl o ↦ inr (o.1, o.0) | inr e ↦ inl ((e.0, e.1), e.2) ],
  λ h. same.1 (elim h [ inl e ↦ inr (e.0.0, e.0.1, e.1) | inr o ↦ inl (o.1, o.0) ]),
)

-- an object that came is held with its pairs and no others
pub held_replaced : (old new : Contents) (scope : Named) (name : List ℕ) (pairs : List Pair) → ReplacesObject old new (in_site scope) name pairs → held_of new ≡ in_place scope name pairs (held_of old)
unfolding held_of
held_replaced old new scope name pairs replaces = λ i. record {
  has_object = λ org index other.
      one_test (is_there new (scope_of org index) other) (is_at scope name org index other || (not (is_at scope name org index other) && is_there old (scope_of org index) other)) (there_told new (scope_of org index) other)
      (either_told (is_at scope name org index other) (not (is_at scope name org index other) && is_there old (scope_of org index) other) (at_told scope name org index other)
      (both_told (not (is_at scope name org index other)) (is_there old (scope_of org index) other) (not_told (is_at scope name org index other) (at_told scope name org index other)) (there_told old (scope_of org index) other)))
      (here_or_before (replaces.objects (scope_of org index) other)) i;
  has_pair = λ org index other p.
      one_test (is_posted new (scope_of org index) other p) ((is_at scope name org index other && lists pairs p) || (not (is_at scope name org index other) && is_posted old (scope_of org index) other p)) (posted_told new (scope_of org index) other p)
      (either_told (is_at scope name org index other && lists pairs p) (not (is_at scope name org index other) && is_posted old (scope_of org index) other p)
      (both_told (is_at scope name org index other) (lists pairs p) (at_told scope name org index other) (listed_member pairs p))
      (both_told (not (is_at scope name org index other)) (is_posted old (scope_of org index) other p) (not_told (is_at scope name org index other) (at_told scope name org index other)) (posted_told old (scope_of org index) other p)))
      (listed_or_before (replaces.pairs_are (scope_of org index) other p)) i;
}

others_alone : {H O N : Type 0} → H ↔ (O × N) → H ↔ (N × O)
others_alone same = (λ h. let both = same.0 h in (both.1, both.0), λ h. same.1 (h.1, h.0))

-- an object that went is held no more, nor its pairs
pub held_without : (old new : Contents) (scope : Named) (name : List ℕ) → DropsObject old new (in_site scope) name → held_of new ≡ without_object scope name (held_of old)
unfolding held_of
held_without old new scope name drops = λ i. record {
  has_object = λ org index other.
      one_test (is_there new (scope_of org index) other) (not (is_at scope name org index other) && is_there old (scope_of org index) other) (there_told new (scope_of org index) other)
      (both_told (not (is_at scope name org index other)) (is_there old (scope_of org index) other) (not_told (is_at scope name org index other) (at_told scope name org index other)) (there_told old (scope_of org index) other))
      (others_alone (drops.objects (scope_of org index) other)) i;
  has_pair = λ org index other p.
      one_test (is_posted new (scope_of org index) other p) (not (is_at scope name org index other) && is_posted old (scope_of org index) other p) (posted_told new (scope_of org index) other p)
      (both_told (not (is_at scope name org index other)) (is_posted old (scope_of org index) other p) (not_told (is_at scope name org index other) (at_told scope name org index other)) (posted_told old (scope_of org index) other p))
      (others_alone (drops.pairs_are (scope_of org index) other p)) i;
}

-- ---- room

pub room_had : (c : Contents) (objects pairs terms : ℕ) → HasRoom (Some (room_in c)) objects pairs terms → arena.HasRoom c objects pairs terms
room_had c objects pairs terms has = record { for_objects = has.0; for_postings = has.1; for_terms = has.2 }

pub room_given : (c : Contents) (objects pairs terms : ℕ) → arena.HasRoom c objects pairs terms → HasRoom (Some (room_in c)) objects pairs terms
room_given c objects pairs terms has = (has.for_objects, has.for_postings, has.for_terms)

pub room_lost : (old new : Contents) (objects pairs terms : ℕ) → arena.LosesRoom old new objects pairs terms → LosesRoom (Some (room_in old)) (Some (room_in new)) objects pairs terms
room_lost old new objects pairs terms loses = (loses.for_objects, loses.for_postings, loses.for_terms)

-- ---- nothing

-- where no object is there, nothing is held
pub held_nothing : (c : Contents) → IsEmpty c → held_of c ≡ nothing
unfolding held_of
held_nothing c empty = λ i. record {
  has_object = λ org index name. never_told (is_there c (scope_of org index) name) (there_told c (scope_of org index) name) (empty (scope_of org index) name) i;
  has_pair = λ org index name p. never_told (is_posted c (scope_of org index) name p) (posted_told c (scope_of org index) name p) (λ h. empty (scope_of org index) name (holds_object c (scope_of org index) name p h)) i;
}
