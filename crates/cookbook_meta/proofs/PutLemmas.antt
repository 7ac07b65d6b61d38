-- What stands at a key once fields are put in.
use Rattle.std.proofs.Common.{◌≡◌, ℕ, Bool, true, false, cond, not, ◌&&◌, IsTrue, List, [], ◌∷◌, Some, Ordering, Less, Equal, Greater, nat_cmp, bytes_eq, refl, sym, ap, subst, ◌∙◌}
use Rattle.std.proofs.lemmas.Slice.Eq.{bytes_eq-Decides}
use Rattle.std.specs.Cmp.Lexicographic.{slice_cmp}
use Rattle.std.specs.FinMap.{slice_cmp-IsAntisymmetric, nat_cmp-IsAntisymmetric}
use Rattle.std.specs.List.{list_all}
use Rattle.std.specs.Ordering.{match_ordering}
use Rattle.doc_tree.specs.Doc.{Doc, pairs_of}
use Rattle.doc_tree.specs.Part.{pair_at, with_pair}
use Rattle.cookbook_meta.specs.Stored.{beside, with_pairs}
use Rattle.cookbook_meta.proofs.PairLemmas.{pair_at-own, pair_at-other}

pub and_first : (a b : Bool) → IsTrue (a && b) → IsTrue a
and_first true b h = refl
and_first false b h = h

pub and_second : (a b : Bool) → IsTrue (a && b) → IsTrue b
and_second true b h = h
and_second false b h = cc

pub not_true : (a : Bool) → IsTrue (not a) → a ≡ false
not_true true h = cc
not_true false h = refl

-- none of the pairs has the key
abbrev pub lacks : List ℕ → List (List ℕ × Doc) → Bool
lacks key ps = list_all (λ (p : List ℕ × Doc). not (bytes_eq p.0 key)) ps

-- no two pairs have one key
abbrev pub are_apart : List (List ℕ × Doc) → Bool
are_apart [] = true
are_apart (p ∷ ps) = lacks p.0 ps && are_apart ps

-- where no field has the key, there stands what stood
pub at_other : (key : List ℕ) (fields made : List (List ℕ × Doc)) → IsTrue (lacks key fields) → pair_at key (pairs_of (with_pairs fields made)) ≡ pair_at key (pairs_of made)
at_other key [] made none = refl
at_other key (p ∷ fields) made none =
    at_other key fields (with_pair p.0 p.1 made) (and_second _ _ none) ∙ pair_at-other key p.0 p.1 made (not_true _ (and_first _ _ none))

-- where a field has the key, there stands what was put
pub at_own : (key : List ℕ) (d : Doc) (fields made : List (List ℕ × Doc)) → IsTrue (are_apart fields) → pair_at key (pairs_of fields) ≡ Some d → pair_at key (pairs_of (with_pairs fields made)) ≡ Some d
at_own key d [] made distinct is = cc
at_own key d (p ∷ fields) made distinct is =
    elim (bytes_eq p.0 key) as (λ b. bytes_eq p.0 key ≡ b → cond b (Some p.1) (pair_at key (pairs_of fields)) ≡ Some d → pair_at key (pairs_of (with_pairs fields (with_pair p.0 p.1 made))) ≡ Some d) [
      | true ↦ λ same here.
          let key_is : p.0 ≡ key = (bytes_eq-Decides p.0 key).0 same in
          let none : IsTrue (lacks key fields) = subst (λ (k : List ℕ). IsTrue (lacks k fields)) key_is (and_first _ _ distinct) in
          at_other key fields (with_pair p.0 p.1 made) none
          ∙ ap (λ (k : List ℕ). pair_at k (pairs_of (with_pair p.0 p.1 made))) (sym key_is)
          ∙ pair_at-own p.0 p.1 made
          ∙ here
      | false ↦ λ differs there. at_own key d fields (with_pair p.0 p.1 made) (and_second _ _ distinct) there
    ] refl is

-- ---- what is unlisted stays

beside-at : (listed : List ℕ → Bool) (o : Ordering) (key : List ℕ) (d : Doc) (p : List ℕ × Doc) (ps after : List (List ℕ × Doc)) → listed key ≡ true → slice_cmp nat_cmp key p.0 ≡ o → beside listed after ≡ beside listed ps
    → beside listed (match_ordering o ((key, d) ∷ p ∷ ps) ((p.0, d) ∷ ps) (p ∷ after)) ≡ beside listed (p ∷ ps)
beside-at listed Less key d p ps after own is later = ap (λ b. cond (not b) ((key, d) ∷ beside listed (p ∷ ps)) (beside listed (p ∷ ps))) own
beside-at listed Equal key d p ps after own is later =
    let here : listed p.0 ≡ true = subst (λ (k : List ℕ). listed k ≡ true) (slice_cmp-IsAntisymmetric nat_cmp-IsAntisymmetric key p.0 is) own in
    ap (λ b. cond (not b) ((p.0, d) ∷ beside listed ps) (beside listed ps)) here ∙ sym (ap (λ b. cond (not b) (p ∷ beside listed ps) (beside listed ps)) here)
beside-at listed Greater key d p ps after own is later = ap (λ (qs : List (List ℕ × Doc)). cond (not (listed p.0)) (p ∷ qs) qs) later

beside-put : (listed : List ℕ → Bool) (key : List ℕ) (d : Doc) (ps : List (List ℕ × Doc)) → listed key ≡ true → beside listed (with_pair key d ps) ≡ beside listed ps
beside-put listed key d [] own = ap (λ b. cond (not b) ((key, d) ∷ []) []) own
beside-put listed key d (p ∷ ps) own = beside-at listed _ key d p ps (with_pair key d ps) own refl (beside-put listed key d ps own)

-- where each field is listed, what is unlisted stays
pub beside-puts : (listed : List ℕ → Bool) (fields made : List (List ℕ × Doc)) → IsTrue (list_all (λ (p : List ℕ × Doc). listed p.0) fields) → beside listed (with_pairs fields made) ≡ beside listed made
beside-puts listed [] made all = refl
beside-puts listed (p ∷ fields) made all = beside-puts listed fields (with_pair p.0 p.1 made) (and_second _ _ all) ∙ beside-put listed p.0 p.1 made (and_first _ _ all)

pub beside-twice : (listed : List ℕ → Bool) (ps : List (List ℕ × Doc)) → beside listed (beside listed ps) ≡ beside listed ps
beside-twice listed [] = refl
beside-twice listed (p ∷ ps) =
    elim (not (listed p.0)) as (λ b. not (listed p.0) ≡ b → beside listed (cond b (p ∷ beside listed ps) (beside listed ps)) ≡ cond b (p ∷ beside listed ps) (beside listed ps)) [
      | true ↦ λ own. ap (λ b. cond b (p ∷ beside listed (beside listed ps)) (beside listed (beside listed ps))) own ∙ ap (λ (qs : List (List ℕ × Doc)). p ∷ qs) (beside-twice listed ps)
      | false ↦ λ own. beside-twice listed ps
    ] refl
