-- A manifest that is put on a shelf or taken: what stays, and which files are freed.
use Rattle.std.proofs.Common.{◌≡◌, ℕ, Bool, true, false, cond, not, ◌&&◌, List, Option, Some, None, Ordering, refl, sym, ap, subst, ◌∙◌}
use Rattle.std.proofs.lemmas.Bool.{and_parts}
use Rattle.std.proofs.lemmas.Option.{same_Some}
use Rattle.std.specs.Cmp.{IsTotalOrder, both_ways}
use Rattle.std.specs.Ordering.{eq_by_cmp}
use Rattle.doc_tree.specs.Text.{text_cmp}
use Rattle.org_shelves.specs.Editions.{names_sum}
use Rattle.doc_tree.specs.Doc.{Doc}
use Rattle.shelves.proofs.ShelfLaws.{tied_name, value_at-put, value_at-without}
use Rattle.shelves.specs.Shelves.{Store, put, value_at, without}
use Rattle.org_shelves.proofs.BoolLemmas.{and_false}
use Rattle.org_shelves.proofs.NamedLemmas.{NamedBy, named_by, who_names}
use Rattle.org_shelves.specs.ShelfMoves.{store_names}

-- the manifest that was found names the file
abbrev pub found_names : Option Doc → List ℕ → Bool
found_names None sum = false
found_names (Some gone) sum = names_sum gone sum

module _ {K : Type 0} {cmp : K → K → Ordering} (o : IsTotalOrder cmp) (tied : (x y : K) → eq_by_cmp cmp x y ≡ true → x ≡ y) where
  -- the name and the key are these
  abbrev pub is_at : List ℕ → K → List ℕ → K → Bool
  is_at name key n k = eq_by_cmp text_cmp n name && eq_by_cmp cmp k key

  -- every other place stays
  abbrev pub OthersStay : {X : Type 0} → List ℕ → K → Store cmp X → Store cmp X → Type 0
  OthersStay name key before after = (n : List ℕ) (k : K) → is_at name key n k ≡ false → value_at after n k ≡ value_at before n k

  pub put_others : {X : Type 0} (store : Store cmp X) (name : List ℕ) (key : K) (value : X) → OthersStay name key store (put name key value store)
  put_others store name key value n k apart = value_at-put o store name key value n k ∙ ap (λ b. cond b (Some value) (value_at store n k)) apart

  pub take_others : {X : Type 0} (store : Store cmp X) (name : List ℕ) (key : K) → OthersStay name key store (without name key store)
  take_others store name key n k apart = value_at-without o store name key n k ∙ ap (λ b. cond b None (value_at store n k)) apart

  -- what stands at the place itself
  pub this_place : {X : Type 0} (store : Store cmp X) (name : List ℕ) (key : K) (n : List ℕ) (k : K) → is_at name key n k ≡ true → value_at store n k ≡ value_at store name key
  this_place store name key n k at =
      let parts = and_parts (eq_by_cmp text_cmp n name) (eq_by_cmp cmp k key) at in
      λ i. value_at store (tied_name n name parts.0 i) (tied k key parts.1 i)

  module _ (before after : Store cmp Doc) (name : List ℕ) (key : K) (others : OthersStay name key before after) (sum : List ℕ) where
    -- a file that was named is named by what is replaced, or still
    was_named : (gone : Option Doc) → value_at before name key ≡ gone → store_names sum after ≡ false → (by : NamedBy before sum) (b : Bool) → is_at name key by.name by.key ≡ b → found_names gone sum ≡ true
    was_named None is none by true at = cc (sym by.at ∙ this_place before name key by.name by.key at ∙ is)
    was_named (Some gone) is none by true at =
        subst (λ (m : Doc). names_sum m sum ≡ true) (same_Some by.manifest gone (sym by.at ∙ this_place before name key by.name by.key at ∙ is)) by.names
    was_named found is none by false apart = cc (sym (named_by after by.name by.key by.manifest sum (others by.name by.key apart ∙ by.at) by.names) ∙ none)

    names_before : (gone : Option Doc) → value_at before name key ≡ gone → found_names gone sum ≡ true → store_names sum before ≡ true
    names_before None is names = cc
    names_before (Some gone) is names = named_by before name key gone sum is names

    freed_if : (gone : Option Doc) (b : Bool) → value_at before name key ≡ gone → store_names sum after ≡ b → (found_names gone sum && not b) ≡ (store_names sum before && not b)
    freed_if gone true is still = and_false (found_names gone sum) ∙ sym (and_false (store_names sum before))
    freed_if gone false is still =
        ap (λ b. b && true)
        (both_ways (found_names gone sum) (store_names sum before) (names_before gone is)
        (λ named. let by = who_names o before sum named in was_named gone is still by (is_at name key by.name by.key) refl))

    -- of the files that aren't named afterwards, what is replaced named those that anything named
    pub freed : (gone : Option Doc) → value_at before name key ≡ gone → (found_names gone sum && not (store_names sum after)) ≡ (store_names sum before && not (store_names sum after))
    freed gone is = freed_if gone (store_names sum after) is refl
