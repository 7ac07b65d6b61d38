-- What was read of a Dict that is known stands in the order of its keys.
use Rattle.std.proofs.Common.{◌≡◌, ◌<◌, ℕ, zero, suc, List, [], ◌∷◌, ◌++◌, map, length, take, get_or, Option, None, Some, IfOk, IfSome, option_and_then, option_map, Result, Ok, Err, Less, nat_cmp, arith, refl, sym, ap, subst, ◌∙◌}
use Rattle.std.specs.Cmp.Lexicographic.{slice_cmp}
use Rattle.std.specs.List.{AllByRecursion}
use Rattle.std.specs.List.Sorted.{IsStrictlySortedBy}
use Rattle.std.specs.Map.{keys_of}
use Rattle.doc_tree.specs.Doc.{Doc, null, boolean, whole, words, list, dict, pairs_list}
use Rattle.doc_tree.specs.Name.{is_name}
use Rattle.doc_tree.specs.Valid.{InOrder, IsDoc}
use Rattle.run_lists.specs.ByName.{AreInOrder, dict_of, kept_if, named_run_list, named_run_lists}
use Rattle.run_lists.specs.Reading.{each_of, items_read}
use Rattle.run_lists.specs.Stored.{Stored}
use Rattle.run_lists.specs.Storing.{named_pair}
use Rattle.run_lists.specs.declared.by_name.NamedRunList.{NamedRunList}
use Rattle.run_lists.specs.declared.reading.Allowed.{Allowed}
use Rattle.run_lists.proofs.EachLemmas.{each_told, kept_found, map_found, same_some, then_found}

-- ---- what is made of each pair

-- the keys of a Dict that is known are in order
pub dict_order : (d : Doc) (ps : List (List ℕ × Doc)) → IsDoc d → dict_of d ≡ Some ps → InOrder (keys_of ps)
dict_order null ps known is = cc
dict_order (boolean b) ps known is = cc
dict_order (whole z) ps known is = cc
dict_order (words text) ps known is = cc
dict_order (list ds) ps known is = cc
dict_order (dict qs) ps known is = subst (λ (rs : List (List ℕ × Doc)). InOrder (keys_of rs)) (same_some (pairs_list qs) ps is) known.1

pub keys_of-pairs : (ps : List (List ℕ × Doc)) → map (λ (p : List ℕ × Doc). p.0) ps ≡ keys_of ps
keys_of-pairs [] = refl
keys_of-pairs (p ∷ ps) = ap (λ (ks : List (List ℕ)). p.0 ∷ ks) (keys_of-pairs ps)

-- what is made of each pair of a Dict is in order by its names
pub order_of : {A : Type 0} (make : List ℕ × Doc → Option A) (name : A → List ℕ) → ((pair : List ℕ × Doc) (x : A) → make pair ≡ Some x → name x ≡ pair.0) → (d : Doc) (xs : List A) → IsDoc d → option_and_then (each_of make) (dict_of d) ≡ Some xs
    → InOrder (map name xs)
order_of make name told d xs known is =
    let read = then_found (dict_of d) (each_of make) xs is in
    subst InOrder (sym (each_told make (λ (p : List ℕ × Doc). p.0) name told read.0 xs read.2 ∙ keys_of-pairs read.0)) (dict_order d read.0 known read.1)

-- ---- run lists under their names

-- a run list is named by its key
pub named_told : (allowed : Allowed) (pair : List ℕ × Doc) (named : NamedRunList) → named_run_list allowed pair ≡ Some named → named.name ≡ pair.0
named_told allowed pair named is =
    let name = then_found (kept_if is_name pair.0) (λ name. option_map (λ (items : List Stored). record { name = name; run_list = items }) (items_read allowed pair.1)) named is in
    let items = map_found (items_read allowed pair.1) (λ (items : List Stored). record { name = name.0; run_list = items }) named name.2 in
    ap (λ (n : NamedRunList). n.name) (sym items.2) ∙ sym (kept_found is_name pair.0 name.0 name.1).1

pub lists_in_order : (allowed : Allowed) (d : Doc) (lists : List NamedRunList) → IsDoc d → named_run_lists allowed d ≡ Some lists → AreInOrder lists
lists_in_order allowed d lists known is = order_of (named_run_list allowed) (λ (n : NamedRunList). n.name) (named_told allowed) d lists known is

-- those that were read are in order
pub read_in_order : {F : Type 0} (allowed : Allowed) (d : Doc) (result : Result (Option (List NamedRunList)) F) → IsDoc d → IfOk result (λ found. found ≡ named_run_lists allowed d) → IfOk result (λ found. IfSome found AreInOrder)
read_in_order allowed d (Ok None) known is = tt
read_in_order allowed d (Ok (Some lists)) known is = lists_in_order allowed d lists known (sym is)
read_in_order allowed d (Err fault) known is = tt

pub keys_of-named : (lists : List NamedRunList) → keys_of (map named_pair lists) ≡ map (λ (n : NamedRunList). n.name) lists
keys_of-named [] = refl
keys_of-named (n ∷ lists) = ap (λ (ks : List (List ℕ)). n.name ∷ ks) (keys_of-named lists)

-- ---- one after the other

all_front : (first : List ℕ) (lists : List NamedRunList) (i : ℕ) (named : NamedRunList) → i < length lists → named ≡ get_or lists i named → AllByRecursion (λ y. slice_cmp nat_cmp first y ≡ Less) (map (λ (n : NamedRunList). n.name) lists)
    → AllByRecursion (λ y. slice_cmp nat_cmp first y ≡ Less) (map (λ (n : NamedRunList). n.name) (take i lists) ++ named.name ∷ [])
all_front first [] i named within is all = absurd (omega arith)
all_front first (n ∷ lists) zero named within is all = (subst (λ (m : NamedRunList). slice_cmp nat_cmp first m.name ≡ Less) (sym is) all.0, tt)
all_front first (n ∷ lists) (suc i) named within is all = (all.0, all_front first lists i named (omega arith) is all.1)

-- the first names and the next are in order
front_in_order : (lists : List NamedRunList) (i : ℕ) (named : NamedRunList) → i < length lists → named ≡ get_or lists i named → AreInOrder lists → InOrder (map (λ (n : NamedRunList). n.name) (take i lists) ++ named.name ∷ [])
unfolding IsStrictlySortedBy
front_in_order [] i named within is all = absurd (omega arith)
front_in_order (n ∷ lists) zero named within is all = (tt, tt)
front_in_order (n ∷ lists) (suc i) named within is all = (all_front n.name lists i named (omega arith) is all.0, front_in_order lists i named (omega arith) is all.1)

-- so the next key stands behind those of the first lists
pub next_in_order : (lists items : List NamedRunList) (i : ℕ) (named : NamedRunList) (made : List (List ℕ × Doc)) (key : List ℕ) → items ≡ lists → i < length items → named ≡ get_or items i named → key ≡ named.name → made ≡ map named_pair (take i lists) → AreInOrder lists
    → InOrder (keys_of made ++ key ∷ [])
next_in_order lists items i named made key same within is keyed is_made order =
    let keys : keys_of made ≡ map (λ (n : NamedRunList). n.name) (take i items) =
    ap keys_of is_made ∙ keys_of-named (take i lists) ∙ ap (λ (ns : List NamedRunList). map (λ (n : NamedRunList). n.name) (take i ns)) (sym same) in
    let all : keys_of made ++ key ∷ [] ≡ map (λ (n : NamedRunList). n.name) (take i items) ++ named.name ∷ [] = λ k. keys k ++ keyed k ∷ [] in
    subst InOrder (sym all) (front_in_order items i named within is (subst AreInOrder (sym same) order))
