-- Names in order, and the fields of a listing.
use Rattle.std.proofs.Common.{◌≡◌, ℕ, List, [], ◌∷◌, ◌++◌, map, sym, ap, subst, refl, ◌∙◌}
use Rattle.std.specs.List.{AllByRecursion}
use Rattle.std.specs.List.Sorted.{IsStrictlySortedBy}
use Rattle.std.specs.Map.{keys_of}
use Rattle.std.proofs.lemmas.List.{map-append}
use Rattle.doc_tree.specs.Doc.{Doc}
use Rattle.doc_tree.specs.Valid.{InOrder}

-- what holds of each of a list holds of each of its front
front_all : (P : List ℕ → Type 0) (xs : List (List ℕ)) (y : List ℕ) (ys : List (List ℕ)) → AllByRecursion P (xs ++ y ∷ ys) → AllByRecursion P (xs ++ y ∷ [])
front_all P [] y ys all = (all.0, tt)
front_all P (x ∷ xs) y ys all = (all.0, front_all P xs y ys all.1)

-- a front of keys in order is in order
pub InOrder-upto : (xs : List (List ℕ)) (y : List ℕ) (ys : List (List ℕ)) → InOrder (xs ++ y ∷ ys) → InOrder (xs ++ y ∷ [])
unfolding IsStrictlySortedBy
InOrder-upto [] y ys order = (tt, tt)
InOrder-upto (x ∷ xs) y ys order = (front_all _ xs y ys order.0, InOrder-upto xs y ys order.1)

-- no names are in order
pub InOrder-nothing : InOrder []
unfolding IsStrictlySortedBy
InOrder-nothing = tt

-- the keys of a listing are its names
keys-paths : (P : List ℕ → Doc) (names : List (List ℕ)) → keys_of (map (λ (name : List ℕ). (name, P name)) names) ≡ names
keys-paths P [] = refl
keys-paths P (name ∷ names) = ap (λ ns. name ∷ ns) (keys-paths P names)

-- the next name is above those of the fields so far
pub next_in_order : (P : List ℕ → Doc) (names : List (List ℕ)) (fields : List (List ℕ × Doc)) (left : List (List ℕ)) (name : List ℕ) (rest : List (List ℕ)) (copied : List ℕ)
    → fields ++ map (λ (n : List ℕ). (n, P n)) left ≡ map (λ (n : List ℕ). (n, P n)) names
    → left ≡ name ∷ rest → copied ≡ name → InOrder names → InOrder (keys_of fields ++ copied ∷ [])
next_in_order P names fields left name rest copied so_far first same order =
    let pairs = λ (ns : List (List ℕ)). map (λ (n : List ℕ). (n, P n)) ns in
    let all : keys_of fields ++ name ∷ rest ≡ names =
    ap (λ ns. keys_of fields ++ ns) (sym (keys-paths P (name ∷ rest)))
    ∙ ap (λ ns. keys_of fields ++ keys_of (pairs ns)) (sym first)
    ∙ sym (map-append (λ (p : List ℕ × Doc). p.0) fields (pairs left))
    ∙ ap keys_of so_far
    ∙ keys-paths P names in
    subst (λ n. InOrder (keys_of fields ++ n ∷ [])) (sym same) (InOrder-upto (keys_of fields) name rest (subst InOrder (sym all) order))
