-- What a dict has at a key after a document was put at one.
use Rattle.std.proofs.Common.{◌≡◌, ℕ, List, [], ◌∷◌, false, Some, Ordering, Less, Equal, Greater, nat_cmp, bytes_eq, is_eq, refl, sym, ap, subst, ◌∙◌}
use Rattle.std.proofs.lemmas.Map.Text.{is_eq-slice_cmp}
use Rattle.std.specs.Cmp.Lexicographic.{slice_cmp, nat_list_eq_equiv}
use Rattle.std.specs.FinMap.{slice_cmp-IsAntisymmetric, nat_cmp-IsAntisymmetric}
use Rattle.std.specs.Ordering.{match_ordering}
use Rattle.doc_tree.specs.Doc.{Doc, pairs_of}
use Rattle.doc_tree.specs.Part.{pair_at, with_pair}

-- a key equals another where they compare so
same_key : (k l : List ℕ) (o : Ordering) → slice_cmp nat_cmp k l ≡ o → bytes_eq l k ≡ is_eq o
same_key k l o h = nat_list_eq_equiv.symm l k ∙ sym (is_eq-slice_cmp k l) ∙ ap is_eq h

own-at : (o : Ordering) (k : List ℕ) (d : Doc) (p : List ℕ × Doc) (ps after : List (List ℕ × Doc)) → slice_cmp nat_cmp k p.0 ≡ o → pair_at k (pairs_of after) ≡ Some d
    → pair_at k (pairs_of (match_ordering o ((k, d) ∷ p ∷ ps) ((p.0, d) ∷ ps) (p ∷ after))) ≡ Some d
own-at Less k d p ps after h later = rw (nat_list_eq_equiv.refl k) refl
own-at Equal k d p ps after h later = rw (same_key k p.0 Equal h) refl
own-at Greater k d p ps after h later = rw (same_key k p.0 Greater h) later

-- at the key itself there is the document
pub pair_at-own : (k : List ℕ) (d : Doc) (ps : List (List ℕ × Doc)) → pair_at k (pairs_of (with_pair k d ps)) ≡ Some d
pair_at-own k d [] = rw (nat_list_eq_equiv.refl k) refl
pair_at-own k d (p ∷ ps) = own-at _ k d p ps (with_pair k d ps) refl (pair_at-own k d ps)

other-at : (o : Ordering) (q k : List ℕ) (d : Doc) (p : List ℕ × Doc) (ps after : List (List ℕ × Doc)) → bytes_eq k q ≡ false → slice_cmp nat_cmp k p.0 ≡ o
    → pair_at q (pairs_of after) ≡ pair_at q (pairs_of ps)
    → pair_at q (pairs_of (match_ordering o ((k, d) ∷ p ∷ ps) ((p.0, d) ∷ ps) (p ∷ after))) ≡ pair_at q (pairs_of (p ∷ ps))
other-at Less q k d p ps after other h later = rw other refl
other-at Equal q k d p ps after other h later =
    let here : bytes_eq p.0 q ≡ false = subst (λ (l : List ℕ). bytes_eq l q ≡ false) (slice_cmp-IsAntisymmetric nat_cmp-IsAntisymmetric k p.0 h) other in
    rw here refl
other-at Greater q k d p ps after other h later = rw later refl

-- at another key there is what was there
pub pair_at-other : (q k : List ℕ) (d : Doc) (ps : List (List ℕ × Doc)) → bytes_eq k q ≡ false → pair_at q (pairs_of (with_pair k d ps)) ≡ pair_at q (pairs_of ps)
pair_at-other q k d [] other = rw other refl
pair_at-other q k d (p ∷ ps) other = other-at _ q k d p ps (with_pair k d ps) other refl (pair_at-other q k d ps other)
