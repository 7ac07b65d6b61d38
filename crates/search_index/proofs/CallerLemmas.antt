-- For a crate above: what a call leaves of the pairs of one object.
use Rattle.std.proofs.Common.{◌≡◌, ◌∙◌, ◌↔◌, ◌+◌, ◌||◌, ℕ, true, false, List, [], ◌∷◌, IsTrue, inl, inr, refl, sym, ap, arith}
use Rattle.std.proofs.lemmas.Bool.{cases_Bool, false≢true}
use Rattle.std.specs.Cmp.{Equal-is, tied_itself}
use Rattle.std.specs.Ordering.{is_eq}
use Rattle.search_query.specs.Pair.{Pair, lists, pair_cmp, pair_cmp_total, same_pair}
use Rattle.search_index.specs.declared.scope.Scope.{Scope}
use Rattle.search_index.specs.Arena.{AddsObject, ArePairs, Contents, DropsObject, HasObject, HasRoom, Holds, LosesRoom, Member, SameObjects}
use Rattle.search_index.proofs.EqualKeys.{same_pairs}

-- what has a pair is there
pub holds_object : (c : Contents) (scope : Scope) (name : List ℕ) (p : Pair) → Holds c scope name p → HasObject c scope name
holds_object c scope name p h = (h.0, h.1, h.4, h.5)

-- an object that was put in has its pairs
pub added_pairs : (old new : Contents) (scope : Scope) (name : List ℕ) (pairs : List Pair) → AddsObject old new scope name pairs → (HasObject old scope name → ⊥) → ArePairs new scope name pairs
added_pairs old new scope name pairs adds absent p = (
  λ m. (adds.pairs_are scope name p).1 (inr (refl, refl, m)),
  λ h. elim ((adds.pairs_are scope name p).0 h) [
    | inl was ↦ absurd (absent (holds_object old scope name p was))
    | inr (e, f, m) ↦ m
  ],
)

-- and the others have theirs
pub added_others : (old new : Contents) (scope : Scope) (name : List ℕ) (pairs : List Pair) → AddsObject old new scope name pairs → (s : Scope) (n : List ℕ) (ps : List Pair) → ((s ≡ scope) × (n ≡ name) → ⊥) → ArePairs old s n ps → ArePairs new s n ps
added_others old new scope name pairs adds s n ps differs are p = (
  λ m. (adds.pairs_are s n p).1 (inl ((are p).0 m)),
  λ h. elim ((adds.pairs_are s n p).0 h) [
    | inl was ↦ (are p).1 was
    | inr (e, f, m) ↦ absurd (differs (e, f))
  ],
)

-- an object that was taken out isn't there
pub dropped_gone : (old new : Contents) (scope : Scope) (name : List ℕ) → DropsObject old new scope name → HasObject new scope name → ⊥
dropped_gone old new scope name drops h = ((drops.objects scope name).0 h).1 (refl, refl)

-- and the others have their pairs
pub dropped_others : (old new : Contents) (scope : Scope) (name : List ℕ) → DropsObject old new scope name → (s : Scope) (n : List ℕ) (ps : List Pair) → ((s ≡ scope) × (n ≡ name) → ⊥) → ArePairs old s n ps → ArePairs new s n ps
dropped_others old new scope name drops s n ps differs are p = (
  λ m. (drops.pairs_are s n p).1 ((are p).0 m, differs),
  λ h. (are p).1 ((drops.pairs_are s n p).0 h).0,
)

-- where the objects are the same, so are their pairs
pub same_kept : (old new : Contents) → SameObjects old new → (s : Scope) (n : List ℕ) (ps : List Pair) → ArePairs old s n ps → ArePairs new s n ps
same_kept old new same s n ps are p = (λ m. (same.pairs s n p).1 ((are p).0 m), λ h. (are p).1 ((same.pairs s n p).0 h))

-- what is left of the room
pub room_kept : (old new : Contents) (objects postings terms a b c : ℕ) → LosesRoom old new objects postings terms → HasRoom old (a + objects) (b + postings) (c + terms) → HasRoom new a b c
room_kept old new objects postings terms a b c loses has = record {
  for_objects = let one = loses.for_objects in let two = has.for_objects in omega arith;
  for_postings = let one = loses.for_postings in let two = has.for_postings in omega arith;
  for_terms = let one = loses.for_terms in let two = has.for_terms in omega arith;
}

-- the pairs that `search_query` lists
pub listed_member : (pairs : List Pair) (p : Pair) → IsTrue (lists pairs p) ↔ Member pairs p
listed_member [] p = (λ h. absurd (false≢true h), λ m. absurd m)
listed_member (q ∷ pairs) p =
    let rest = listed_member pairs p in (
      λ h. elim (cases_Bool (same_pair p q)) [
        | inl same ↦ inl (sym (same_pairs p q ((Equal-is (pair_cmp p q)).0 same)))
        | inr other ↦ inr (rest.0 (sym (ap (λ b. b || lists pairs p) other) ∙ h))
      ],
      elim [
        | inl e ↦ ap (λ b. b || lists pairs p) (ap (same_pair p) e ∙ ap is_eq (tied_itself pair_cmp_total p))
        | inr m ↦ elim (same_pair p q) as (λ b. (b || lists pairs p) ≡ true) [ true ↦ refl | false ↦ rest.1 m ]
      ],
    )
