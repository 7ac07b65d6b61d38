-- The keys of partial searches, of the bodies that ask for them and of the rows that they show.
use Rattle.std.proofs.Common.{◌≡◌, ◌<◌, ◌+◌, ℕ, List, [], ◌∷◌, ◌++◌, length, drop, get_or, Option, Some, None, option_map, Result, Ok, Err, ok_or, Less, nat_cmp, refl, sym, ap, subst, ◌∙◌}
use Rattle.std.proofs.lemmas.List.{drop_more, map-append}
use Rattle.std.specs.Cmp.Lexicographic.{slice_cmp}
use Rattle.std.specs.List.{AllByRecursion}
use Rattle.std.specs.List.Sorted.{IsStrictlySortedBy}
use Rattle.std.specs.Map.{keys_of}
use Rattle.doc_tree.specs.Doc.{Doc}
use Rattle.doc_tree.specs.Valid.{InOrder}
use Rattle.doc_tree.specs.declared.kind.Kind.{Kind}
use Rattle.search_query.specs.Partial.{Wanted, data_of, each_or_fault, path_of, then_do, wanted_of}

-- ---- what was read has the keys of the body

abbrev from_ok : {A F : Type 0} → A → Result A F → A
from_ok other (Ok x) = x
from_ok other (Err f) = other

same_ok : {A F : Type 0} (x y : A) → ◌≡◌ {A = Result A F} (Ok x) (Ok y) → x ≡ y
same_ok x y e = ap (from_ok x) e

keys_with : (key : List ℕ) (path : Option (List (List ℕ))) (others : Result (List Wanted) (List ℕ)) (keys : List (List ℕ)) (ws : List Wanted) → ((vs : List Wanted) → others ≡ Ok vs → keys_of vs ≡ keys)
    → then_do (ok_or (option_map (λ p. (key, p)) path) key) (λ w. then_do others (λ vs. Ok (w ∷ vs))) ≡ Ok ws → keys_of ws ≡ key ∷ keys
keys_with key None others keys ws rest is = cc
keys_with key (Some p) (Err f) keys ws rest is = cc
keys_with key (Some p) (Ok vs) keys ws rest is = ap keys_of (sym (same_ok {F = List ℕ} ((key, p) ∷ vs) ws is)) ∙ ap (λ ks. key ∷ ks) (rest vs refl)

pub keys_of-wanted : (ps : List (List ℕ × Doc)) (ws : List Wanted) → each_or_fault wanted_of ps ≡ Ok ws → keys_of ws ≡ keys_of ps
keys_of-wanted [] ws is = ap keys_of (sym (same_ok {F = List ℕ} [] ws is))
keys_of-wanted (p ∷ ps) ws is = keys_with p.0 (path_of p.1) (each_or_fault wanted_of ps) (keys_of ps) ws (λ vs e. keys_of-wanted ps vs e) is

-- ---- a row has the keys that are wanted

pub keys_of-data_of : (kind : Kind) (ws : List Wanted) (object : Doc) → keys_of (data_of kind ws object) ≡ keys_of ws
keys_of-data_of kind [] object = refl
keys_of-data_of kind (w ∷ ws) object = ap (λ ks. w.0 ∷ ks) (keys_of-data_of kind ws object)

all_first : (first key : List ℕ) (xs ys : List (List ℕ)) → AllByRecursion (λ y. slice_cmp nat_cmp first y ≡ Less) (xs ++ key ∷ ys) → AllByRecursion (λ y. slice_cmp nat_cmp first y ≡ Less) (xs ++ key ∷ [])
all_first first key [] ys all = (all.0, tt)
all_first first key (x ∷ xs) ys all = (all.0, all_first first key xs ys all.1)

-- the first of keys in order are in order
InOrder-first : (xs : List (List ℕ)) (key : List ℕ) (ys : List (List ℕ)) → InOrder (xs ++ key ∷ ys) → InOrder (xs ++ key ∷ [])
unfolding IsStrictlySortedBy
InOrder-first [] key ys order = (tt, tt)
InOrder-first (x ∷ xs) key ys order = (all_first x key xs ys order.0, InOrder-first xs key ys order.1)

-- the keys of what is shown so far and the next key are in order
pub InOrder-shown : (kind : Kind) (object : Doc) (ws : List Wanted) (i : ℕ) (w : Wanted) (made : List (List ℕ × Doc)) → i < length ws → w ≡ get_or ws i w → InOrder (keys_of ws)
    → data_of kind ws object ≡ made ++ data_of kind (drop i ws) object → InOrder (keys_of made ++ w.0 ∷ [])
InOrder-shown kind object ws i w made within is order so_far =
    let later = drop (i + 1) ws in
    let here : drop i ws ≡ w ∷ later = drop_more ws i w within ∙ ap (λ (v : Wanted). v ∷ later) (sym is) in
    let all : keys_of ws ≡ keys_of made ++ w.0 ∷ keys_of (data_of kind later object) =
    sym (keys_of-data_of kind ws object) ∙ ap keys_of (so_far ∙ ap (λ vs. made ++ data_of kind vs object) here)
    ∙ map-append (λ (p : List ℕ × Doc). p.0) made (data_of kind (w ∷ later) object) in
    InOrder-first (keys_of made) w.0 (keys_of (data_of kind later object)) (subst InOrder all order)
