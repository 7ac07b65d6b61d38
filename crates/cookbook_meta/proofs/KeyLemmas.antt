-- Keys among others, and the order of those that are kept.
use Rattle.std.proofs.Common.{◌≡◌, ◌<◌, ◌+◌, ℕ, Bool, true, false, cond, not, ◌||◌, List, [], ◌∷◌, ◌++◌, map, length, drop, get_or, bytes_eq, Bor, Less, nat_cmp, refl, sym, ap, subst, ◌∙◌}
use Rattle.std.proofs.lemmas.List.{drop_more, map-append}
use Rattle.std.proofs.lemmas.List.Kept.{IsStrictlySortedBy-filter}
use Rattle.std.specs.Cmp.Lexicographic.{slice_cmp}
use Rattle.std.specs.List.{AllByRecursion, list_any, filter}
use Rattle.std.specs.List.Sorted.{IsStrictlySortedBy}
use Rattle.std.specs.Map.{keys_of}
use Rattle.doc_tree.specs.Doc.{Doc}
use Rattle.doc_tree.specs.Tree.{pair_of}
use Rattle.doc_tree.specs.Valid.{InOrder}
use Rattle.doc_tree.specs.declared.tree.Field.{Field}
use Rattle.cookbook_meta.specs.Stored.{beside, is_among}

-- a key is among texts where it is one of them
pub is_among-map : (key : List ℕ) (texts : List (Bor (List ℕ))) → is_among key (map (λ (s : Bor (List ℕ)). s.now) texts) ≡ list_any (λ (s : Bor (List ℕ)). bytes_eq s.now key) texts
is_among-map key [] = refl
is_among-map key (s ∷ texts) = ap (λ (b : Bool). bytes_eq s.now key || b) (is_among-map key texts)

-- the keys that are kept are those of the pairs that are kept
keys_of-beside : (listed : List ℕ → Bool) (ps : List (List ℕ × Doc)) → keys_of (beside listed ps) ≡ filter (λ key. not (listed key)) (keys_of ps)
keys_of-beside listed [] = refl
keys_of-beside listed (p ∷ ps) =
    elim (not (listed p.0)) as (λ b. keys_of (cond b (p ∷ beside listed ps) (beside listed ps)) ≡ cond b (p.0 ∷ filter (λ key. not (listed key)) (keys_of ps)) (filter (λ key. not (listed key)) (keys_of ps))) [
      | true ↦ ap (λ ks. p.0 ∷ ks) (keys_of-beside listed ps)
      | false ↦ keys_of-beside listed ps
    ]

all_first : (first key : List ℕ) (xs ys : List (List ℕ)) → AllByRecursion (λ y. slice_cmp nat_cmp first y ≡ Less) (xs ++ key ∷ ys) → AllByRecursion (λ y. slice_cmp nat_cmp first y ≡ Less) (xs ++ key ∷ [])
all_first first key [] ys all = (all.0, tt)
all_first first key (x ∷ xs) ys all = (all.0, all_first first key xs ys all.1)

-- the first of keys in order are in order
pub InOrder-first : (xs : List (List ℕ)) (key : List ℕ) (ys : List (List ℕ)) → InOrder (xs ++ key ∷ ys) → InOrder (xs ++ key ∷ [])
unfolding IsStrictlySortedBy
InOrder-first [] key ys order = (tt, tt)
InOrder-first (x ∷ xs) key ys order = (all_first x key xs ys order.0, InOrder-first xs key ys order.1)

-- the keys of what is kept so far and the next key that is kept are in order
pub InOrder-beside : (listed : List ℕ → Bool) (fs : List Field) (i : ℕ) (f : Field) (made : List (List ℕ × Doc)) → i < length fs → f ≡ get_or fs i f → listed f.key ≡ false → InOrder (keys_of (map pair_of fs))
    → beside listed (map pair_of fs) ≡ made ++ beside listed (map pair_of (drop i fs)) → InOrder (keys_of made ++ f.key ∷ [])
InOrder-beside listed fs i f made within is unlisted order so_far =
    let later = beside listed (map pair_of (drop (i + 1) fs)) in
    let here : beside listed (map pair_of (drop i fs)) ≡ pair_of f ∷ later =
    ap (λ gs. beside listed (map pair_of gs)) (drop_more fs i f within)
    ∙ ap (λ (g : Field). cond (not (listed g.key)) (pair_of g ∷ later) later) (sym is)
    ∙ ap (λ (b : Bool). cond (not b) (pair_of f ∷ later) later) unlisted in
    let all : filter (λ key. not (listed key)) (keys_of (map pair_of fs)) ≡ keys_of made ++ f.key ∷ keys_of later =
    sym (keys_of-beside listed (map pair_of fs)) ∙ ap keys_of (so_far ∙ ap (λ ps. made ++ ps) here) ∙ map-append (λ (p : List ℕ × Doc). p.0) made (pair_of f ∷ later) in
    InOrder-first (keys_of made) f.key (keys_of later) (subst InOrder all (IsStrictlySortedBy-filter (slice_cmp nat_cmp) (λ key. not (listed key)) (keys_of (map pair_of fs)) order))
