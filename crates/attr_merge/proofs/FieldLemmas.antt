-- The fields of a dict, gone through one by one.
use Rattle.std.proofs.Common.{◌≡◌, ℕ, zero, suc, List, [], ◌∷◌, ◌++◌, drop, map, Bool, true, false, if◌then◌else◌, Option, Some, None, Less, Equal, Greater, Ordering, nat_cmp, is_eq, bytes_eq, refl, sym, ap, ◌∙◌}
use Rattle.std.proofs.lemmas.List.{append-nil}
use Rattle.std.proofs.lemmas.Map.Text.{is_eq-slice_cmp}
use Rattle.std.specs.Cmp.Lexicographic.{slice_cmp, nat_list_eq_equiv}
use Rattle.std.specs.FinMap.{slice_cmp-IsAntisymmetric, nat_cmp-IsAntisymmetric}
use Rattle.std.specs.List.{AllByRecursion}
use Rattle.std.specs.List.Sorted.{IsStrictlySortedBy}
use Rattle.std.specs.Map.{keys_of}
use Rattle.doc_tree.specs.Doc.{Doc, pairs_of}
use Rattle.doc_tree.specs.Part.{pair_at}
use Rattle.doc_tree.specs.Tree.{pair_of}
use Rattle.doc_tree.specs.Valid.{InOrder}
use Rattle.doc_tree.specs.declared.tree.Field.{Field}
use Rattle.attr_merge.specs.Pieces.{Piece, with_value}

none_above : (k : List ℕ) (ps : List (List ℕ × Doc)) → AllByRecursion (λ (y : List ℕ). slice_cmp nat_cmp k y ≡ Less) (keys_of ps) → pair_at k (pairs_of ps) ≡ None
none_above k [] all = refl
none_above k (p ∷ ps) all =
    let apart : bytes_eq p.0 k ≡ false = nat_list_eq_equiv.symm p.0 k ∙ sym (is_eq-slice_cmp k p.0) ∙ ap is_eq all.0 in
    ap (λ (b : Bool). if b then Some p.1 else pair_at k (pairs_of ps)) apart ∙ none_above k ps all.1

abbrev first_or : Field → List Field → Field
first_or d [] = d
first_or d (x ∷ xs) = x

abbrev rest_of : List Field → List Field
rest_of [] = []
rest_of (x ∷ xs) = xs

-- a key isn't among those behind it
pub key-once : (fs : List Field) (i : ℕ) (f : Field) (rest : List Field) → drop i fs ≡ f ∷ rest → InOrder (keys_of (map pair_of fs)) → pair_at f.key (pairs_of (map pair_of rest)) ≡ None
unfolding IsStrictlySortedBy
key-once [] zero f rest is order = cc
key-once [] (suc i) f rest is order = cc
key-once (g ∷ fs) zero f rest is order =
    let same : g ≡ f = ap (λ (l : List Field). first_or g l) is in
    let rests : fs ≡ rest = ap (λ (l : List Field). rest_of l) is in
    ap (λ (t : Field × List Field). pair_at t.0.key (pairs_of (map pair_of t.1))) (λ i. (sym same i, sym rests i)) ∙ none_above g.key (map pair_of fs) order.0
key-once (g ∷ fs) (suc i) f rest is order = key-once fs i f rest is order.1

equal-from : (o : Ordering) → is_eq o ≡ true → o ≡ Equal
equal-from Less h = cc
equal-from Equal h = refl
equal-from Greater h = cc

pub equal-keys : (k q : List ℕ) → bytes_eq k q ≡ true → k ≡ q
equal-keys k q same = slice_cmp-IsAntisymmetric nat_cmp-IsAntisymmetric k q (equal-from (slice_cmp nat_cmp k q) (is_eq-slice_cmp k q ∙ same))

-- what one field adds, and what those behind it do
pub field-added : (q : List ℕ) (piece : Piece) (before after : List Piece) (f : List ℕ × Doc) (rest : List (List ℕ × Doc))
    → after ≡ before ++ with_value piece (if bytes_eq f.0 q then Some f.1 else None) []
    → pair_at f.0 (pairs_of rest) ≡ None
    → after ++ with_value piece (pair_at q (pairs_of rest)) [] ≡ before ++ with_value piece (if bytes_eq f.0 q then Some f.1 else pair_at q (pairs_of rest)) []
field-added q piece before after f rest added once = at_key (bytes_eq f.0 q) added (λ same. sym (ap (λ (l : List ℕ). pair_at l (pairs_of rest)) (equal-keys f.0 q same)) ∙ once)
  where
    at_key : (b : Bool) → after ≡ before ++ with_value piece (if b then Some f.1 else None) [] → (b ≡ true → pair_at q (pairs_of rest) ≡ None)
        → after ++ with_value piece (pair_at q (pairs_of rest)) [] ≡ before ++ with_value piece (if b then Some f.1 else pair_at q (pairs_of rest)) []
    at_key true is none = ap (λ (r : Option Doc). after ++ with_value piece r []) (none refl) ∙ append-nil after ∙ is
    at_key false is none = ap (λ (l : List Piece). l ++ with_value piece (pair_at q (pairs_of rest)) []) (is ∙ append-nil before)
