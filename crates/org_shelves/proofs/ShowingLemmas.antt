-- The first of keys in order.
use Rattle.std.proofs.Common.{◌≡◌, ◌<◌, ◌+◌, ℕ, List, [], ◌∷◌, ◌++◌, map, length, drop, get_or, Less, nat_cmp, refl, sym, ap, subst, ◌∙◌}
use Rattle.std.proofs.lemmas.List.{drop_more, map-append}
use Rattle.std.specs.Cmp.Lexicographic.{slice_cmp}
use Rattle.std.specs.List.{AllByRecursion}
use Rattle.std.specs.List.Sorted.{IsStrictlySortedBy}
use Rattle.std.specs.Map.{keys_of}
use Rattle.doc_tree.specs.Doc.{Doc}
use Rattle.doc_tree.specs.Tree.{pair_of}
use Rattle.doc_tree.specs.Valid.{InOrder}
use Rattle.doc_tree.specs.declared.tree.Field.{Field}
use Rattle.org_shelves.specs.Showing.{shown_pair}

all_first : (first key : List ℕ) (xs ys : List (List ℕ)) → AllByRecursion (λ y. slice_cmp nat_cmp first y ≡ Less) (xs ++ key ∷ ys) → AllByRecursion (λ y. slice_cmp nat_cmp first y ≡ Less) (xs ++ key ∷ [])
all_first first key [] ys all = (all.0, tt)
all_first first key (x ∷ xs) ys all = (all.0, all_first first key xs ys all.1)

-- the first of keys in order are in order
InOrder-first : (xs : List (List ℕ)) (key : List ℕ) (ys : List (List ℕ)) → InOrder (xs ++ key ∷ ys) → InOrder (xs ++ key ∷ [])
unfolding IsStrictlySortedBy
InOrder-first [] key ys order = (tt, tt)
InOrder-first (x ∷ xs) key ys order = (all_first x key xs ys order.0, InOrder-first xs key ys order.1)

-- a pair that is shown keeps its key
keys_of-shown : (front : List ℕ) (ps : List (List ℕ × Doc)) → keys_of (map (shown_pair front) ps) ≡ keys_of ps
keys_of-shown front [] = refl
keys_of-shown front (p ∷ ps) = ap (λ ks. p.0 ∷ ks) (keys_of-shown front ps)

-- the keys of what is made so far and the next key are in order
pub InOrder-shown : (front : List ℕ) (fs : List Field) (i : ℕ) (f : Field) (made : List (List ℕ × Doc)) → i < length fs → f ≡ get_or fs i f → InOrder (keys_of (map pair_of fs))
    → map (shown_pair front) (map pair_of fs) ≡ made ++ map (shown_pair front) (map pair_of (drop i fs)) → InOrder (keys_of made ++ f.key ∷ [])
InOrder-shown front fs i f made within is order so_far =
    let later = map pair_of (drop (i + 1) fs) in
    let here : map pair_of (drop i fs) ≡ pair_of f ∷ later = ap (map pair_of) (drop_more fs i f within) ∙ ap (λ (g : Field). pair_of g ∷ later) (sym is) in
    let all : keys_of (map pair_of fs) ≡ keys_of made ++ f.key ∷ keys_of (map (shown_pair front) later) =
    sym (keys_of-shown front (map pair_of fs)) ∙ ap keys_of (so_far ∙ ap (λ ps. made ++ map (shown_pair front) ps) here)
    ∙ map-append (λ (p : List ℕ × Doc). p.0) made (map (shown_pair front) (pair_of f ∷ later)) in
    InOrder-first (keys_of made) f.key (keys_of (map (shown_pair front) later)) (subst InOrder all order)
