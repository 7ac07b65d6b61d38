-- The places of an object in the order of its chain, as contracts see them.
use Rattle.std.proofs.Common.{◌≡◌, ◌<◌, ◌≤◌, ◌∙◌, ◌++◌, ◌∷◌, [], ℕ, List, Option, None, ap, arith, inl, inr, length, map, subst, sym}
use Rattle.std.proofs.lemmas.Bool.{cases_lt}
use Rattle.std.proofs.lemmas.List.{get_or-map, get_or_past, length-map}
use Rattle.std.proofs.lemmas.Option.{get_or_from_slice_get, slice_get_within}
use Rattle.ordered_keys.specs.Numbers.{Among}
use Rattle.search_index.specs.Places.{Places}
use Rattle.search_index.specs.Chains.{HasChain, first_in, last_from, next_in, walk}
use Rattle.search_index.specs.Net.{IsCut, IsListed, IsSound, links, net_of, order_of, owners, pairs, place_behind}
use Rattle.search_index.specs.declared.posting.Side.TheVariants as side
use Rattle.search_index.proofs.ChainLemmas.{head_at, path}
use Rattle.search_index.proofs.OrderLemmas.{chain_members, first_is, last_some, next_is, walk_is}
use Rattle.search_index.proofs.PlaceLemmas.{of_object}
use Rattle.search_index.proofs.WalkLemmas.{owned, owner_held, path_length}

-- what is told is the chain
pub order_is : (items : Places) (objects terms : List (Option ℕ)) (object : ℕ) (ps : List ℕ) → IsSound items objects terms → HasChain (links side.Object items) objects object ps → order_of (net_of items objects terms) object ≡ ps
order_is items objects terms object ps sound has =
    let within = slice_get_within objects object has.first has.there in
    let whole = path (links side.Object items) None has.first ps has.chain in
    let members = chain_members (links side.Object items) (owners side.Object (pairs items)) objects object ps sound.of_objects has in
    get_or-map (walk (links side.Object items) (length items.slots)) objects object has.first [] within
    ∙ ap (walk (links side.Object items) (length items.slots)) (get_or_from_slice_get objects object has.first has.first has.there)
    ∙ walk_is (links side.Object items) has.first ps (length items.slots) whole (path_length (links side.Object items) has.first ps (length items.slots) whole (λ q a. owned side.Object items q object ((members q).0 a)))

no_order : (items : Places) (objects terms : List (Option ℕ)) (object : ℕ) → length objects ≤ object → order_of (net_of items objects terms) object ≡ []
no_order items objects terms object past = get_or_past (map (walk (links side.Object items) (length items.slots)) objects) object [] (omega (arith, past, length-map objects (walk (links side.Object items) (length items.slots))))

pub order_chain : (items : Places) (objects terms : List (Option ℕ)) (object : ℕ) (ps : List ℕ) → IsSound items objects terms → object < length objects → order_of (net_of items objects terms) object ≡ ps → HasChain (links side.Object items) objects object ps
order_chain items objects terms object ps sound within told =
    let at = head_at objects object within in
    let old = sound.of_objects.chain object at.0 at.1 in
    let has : HasChain (links side.Object items) objects object old.0 = record { first = at.0; there = at.1; chain = old.1 } in
    subst (λ z. HasChain (links side.Object items) objects object z) (sym (order_is items objects terms object old.0 sound has) ∙ told) has

pub listed : (items : Places) (objects terms : List (Option ℕ)) (object : ℕ) → IsSound items objects terms → IsListed (net_of items objects terms) object
listed items objects terms object sound q = elim (cases_lt object (length objects)) [
  | inl within ↦
      let has = order_chain items objects terms object (order_of (net_of items objects terms) object) sound within (λ i. order_of (net_of items objects terms) object) in
      let members = chain_members (links side.Object items) (owners side.Object (pairs items)) objects object (order_of (net_of items objects terms) object) sound.of_objects has q in
      let both = of_object items objects terms object q in
      (λ a. both.0 (members.0 a), λ is. members.1 (both.1 is))
  | inr past ↦ (
    λ a. absurd (subst (λ z. Among z q) (no_order items objects terms object past) a),
    λ is. let within = sound.of_objects.headed q object (owner_held side.Object items objects terms q object is.0 is.1) in absurd (omega arith),
  )
]

nothing_there : (p : ℕ) (front back : List ℕ) → [] ≡ front ++ p ∷ back → ⊥
nothing_there p [] back e = absurd (cc)
nothing_there p (x ∷ front) back e = absurd (cc)

-- a place of an object is in its chain
pub place_chain : (items : Places) (objects terms : List (Option ℕ)) (object place : ℕ) (front back : List ℕ) → IsSound items objects terms → order_of (net_of items objects terms) object ≡ front ++ place ∷ back → HasChain (links side.Object items) objects object (front ++ place ∷ back)
place_chain items objects terms object place front back sound told = elim (cases_lt object (length objects)) [
  | inl within ↦ order_chain items objects terms object (front ++ place ∷ back) sound within told
  | inr past ↦ absurd (nothing_there place front back (sym (no_order items objects terms object past) ∙ told))
]

-- the place behind another is the first of those behind it
pub behind_is : (items : Places) (objects : List (Option ℕ)) (object : ℕ) (before : Option ℕ) (front back : List ℕ) → HasChain (links side.Object items) objects object (front ++ back) → last_from None front ≡ before → place_behind items objects object before ≡ first_in back
behind_is items objects object before [] back has last =
    ap (place_behind items objects object) (sym last) ∙ get_or_from_slice_get objects object has.first None has.there ∙ first_is (links side.Object items) None has.first back has.chain
behind_is items objects object before (x ∷ xs) back has last =
    let some = last_some x xs in
    let link = next_is (links side.Object items) None has.first x xs back some.0 has.chain some.1 in
    ap (place_behind items objects object) (sym last ∙ some.1) ∙ ap next_in link.1

pub place_after : (items : Places) (objects terms : List (Option ℕ)) (object : ℕ) (before : Option ℕ) (front back : List ℕ) → IsSound items objects terms → IsCut (net_of items objects terms) object before front back → place_behind items objects object before ≡ first_in back
place_after items objects terms object before front back sound cut = elim (cases_lt object (length objects)) [
  | inl within ↦ behind_is items objects object before front back (order_chain items objects terms object (front ++ back) sound within cut.parts) cut.last
  | inr past ↦ none_after front back (sym (no_order items objects terms object past) ∙ cut.parts) cut.last past
]
  where
    none_after : (front back : List ℕ) → [] ≡ front ++ back → last_from None front ≡ before → length objects ≤ object → place_behind items objects object before ≡ first_in back
    none_after [] [] e last past = ap (place_behind items objects object) (sym last) ∙ get_or_past objects object None past
    none_after [] (y ∷ back) e last past = absurd (cc)
    none_after (x ∷ front) back e last past = absurd (cc)
