-- The places of an object's postings.
use Rattle.std.proofs.Common.{◌≡◌, ◌∙◌, ◌↔◌, ℕ, false, List, Option, Some, None, IsSome, ap, inl, inr, is_some, option_map, sym}
use Rattle.std.proofs.lemmas.Bool.{false≢true}
use Rattle.search_index.specs.Places.{Places, get}
use Rattle.search_index.specs.Net.{IsOf, Net, held, net_of, owners, pairs}
use Rattle.search_index.specs.Posting.{owner_in, pair_of}
use Rattle.search_index.specs.declared.posting.Side.TheVariants as side
use Rattle.search_index.proofs.NetLemmas.{cases_option, held-net}
use Rattle.search_index.proofs.WalkLemmas.{owner_held}

-- a place of the object's chain has a posting of it
pub of_object : (items : Places) (objects terms : List (Option ℕ)) (object q : ℕ) → (owners side.Object (pairs items) q ≡ Some object) ↔ IsOf (net_of items objects terms) object q
of_object items objects terms object q = (
  λ mine. elim (cases_option (pairs items q)) [
    | inl gone ↦ let no : owners side.Object (pairs items) q ≡ None = ap (option_map (owner_in side.Object)) gone in absurd (cc)
    | inr (pair, at) ↦
        let one : owners side.Object (pairs items) q ≡ Some pair.0 = ap (option_map (owner_in side.Object)) at in
        let e : pair.0 ≡ object = cc in
        (pair.1, held-net items objects terms q ∙ at ∙ ap Some (λ i. (e i, pair.1)))
  ],
  λ is. owner_held side.Object items objects terms q object is.0 is.1,
)

-- where a posting is told, one stands
pub place_there : (items : Places) (objects terms : List (Option ℕ)) (q : ℕ) → IsSome (held (net_of items objects terms) q) ↔ IsSome (get items q)
place_there items objects terms q = (
  λ told. elim (cases_option (get items q)) [
    | inl gone ↦ let no : is_some (held (net_of items objects terms) q) ≡ false = ap is_some (held-net items objects terms q ∙ ap (option_map pair_of) gone) in absurd (false≢true (sym no ∙ told))
    | inr (x, there) ↦ ap is_some there
  ],
  λ there. elim (cases_option (get items q)) [
    | inl gone ↦ absurd (false≢true (sym (ap is_some gone) ∙ there))
    | inr (x, is) ↦ ap is_some (held-net items objects terms q ∙ ap (option_map pair_of) is)
  ],
)

-- a place has a posting of one object
pub one_object : (net : Net) (q i j a b : ℕ) → held net q ≡ Some (i, j) → held net q ≡ Some (a, b) → i ≡ a
one_object net q i j a b one other = let pairs = some_is (i, j) (a, b) (sym one ∙ other) in ap (λ (p : ℕ × ℕ). p.0) pairs
  where
    some_is : (p r : ℕ × ℕ) → ◌≡◌ {A = Option (ℕ × ℕ)} (Some p) (Some r) → p ≡ r
    some_is p r e = cc
