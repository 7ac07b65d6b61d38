-- Names: gathered, and put in order.
use Rattle.std.proofs.Common.{◌≡◌, ◌∙◌, ◌↔◌, ◌+◌, ◌<◌, ◌≤◌, ◌==◌, ◌||◌, Bool, true, false, cond, ℕ, List, [], ◌∷◌, ◌++◌, length, take, get_or, Some, IsTrue, refl, sym, ap, subst, inl, inr}
use Rattle.std.specs.Ordering.{nat_cmp, is_eq, eq_by_cmp}
use Rattle.std.specs.Cmp.{tied_itself}
use Rattle.std.specs.Cmp.Lexicographic.{pointwise, slice_cmp, nat_list_cmp_total, texts_ties, same_text}
use Rattle.std.specs.List.{dedup, dedup_from}
use Rattle.std.specs.List.Sorted.{IsSorted, IsPermutation, IsStrictlySortedBy}
use Rattle.std.proofs.lemmas.Bool.{cases_Bool, false≢true}
use Rattle.std.proofs.lemmas.List.{take_more, take_all}
use Rattle.std.proofs.lemmas.List.Folds.{list_any-append}
use Rattle.std.proofs.lemmas.List.Kept.{IsStrictlySortedBy-dedup}
use Rattle.std.proofs.lemmas.List.Sorted.{list_any-IsPermutation}
use Rattle.search_index.specs.declared.key.ObjectKey.{ObjectKey}
use Rattle.search_index.specs.declared.found.Found.{Found}
use Rattle.ordered_keys.specs.Numbers.{Among}
use Rattle.search_index.specs.Found.{has}
use Rattle.ordered_keys.specs.Keys.{Keys, key_of}
use Rattle.search_index.specs.KeyOrder.{object_key}
use Rattle.search_index.specs.Names.{lists_name}
use Rattle.search_index.specs.Seeking.{AreNames}
use Rattle.ordered_keys.proofs.NumberLemmas.{Among-left, Among-right, Among-split}

abbrev pub same : List ℕ → List ℕ → Bool
same = eq_by_cmp (slice_cmp nat_cmp)

texts_same : (xs ys : List ℕ) → same xs ys ≡ true → xs ≡ ys
texts_same xs ys is = same_text xs ys (sym (texts_ties xs ys ∙ is))

itself : (xs : List ℕ) → same xs xs ≡ true
itself xs = ap is_eq (tied_itself nat_list_cmp_total xs)

-- equal texts tie
pub same_test : (names : List (List ℕ)) → dedup (pointwise ◌==◌) names ≡ dedup same names
same_test names = λ i. dedup (λ x y. texts_ties x y i) names

or_again : (a b : Bool) → (a || b) ≡ (a || (a || b))
or_again true b = refl
or_again false b = refl

lists-dedup_from : (q k : List ℕ) (ks : List (List ℕ)) → lists_name (dedup_from same k ks) q ≡ (same q k || lists_name ks q)
lists-dedup_from q k [] = refl
lists-dedup_from q k (x ∷ ks) =
    elim (same x k) as (λ b. same x k ≡ b → lists_name (cond b (dedup_from same k ks) (k ∷ dedup_from same x ks)) q ≡ (same q k || (same q x || lists_name ks q))) [
      | true ↦ λ is.
          lists-dedup_from q k ks
          ∙ or_again (same q k) (lists_name ks q)
          ∙ ap (λ y. same q k || (same q y || lists_name ks q)) (sym (texts_same x k is))
      | false ↦ λ is. ap (λ b. same q k || b) (lists-dedup_from q x ks)
    ] refl

lists-dedup : (q : List ℕ) (ks : List (List ℕ)) → lists_name (dedup same ks) q ≡ lists_name ks q
lists-dedup q [] = refl
lists-dedup q (k ∷ ks) = lists-dedup_from q k ks

pub lists-sorted : (given sorted : List (List ℕ)) → IsPermutation given sorted → (q : List ℕ) → lists_name (dedup same sorted) q ≡ lists_name given q
lists-sorted given sorted moved q = lists-dedup q sorted ∙ sym (list_any-IsPermutation (same q) given sorted moved)

pub rising-sorted : (sorted : List (List ℕ)) → IsSorted (slice_cmp nat_cmp) sorted → IsStrictlySortedBy (slice_cmp nat_cmp) (dedup same sorted)
rising-sorted sorted is = IsStrictlySortedBy-dedup nat_list_cmp_total (λ x y. refl) sorted is

-- ---- gathered

abbrev pub NamesSoFar : Keys ObjectKey → ℕ → Found → List ℕ → List (List ℕ) → Type 0
NamesSoFar objects scope found numbers names = (name : List ℕ) → IsTrue (lists_name names name) ↔ ((i : ℕ) × Among numbers i × (key_of objects i ≡ Some (object_key scope name)) × IsTrue (has found i))

or_left : (a b : Bool) → a ≡ true → (a || b) ≡ true
or_left a b e = ap (λ z. z || b) e

or_right : (a b : Bool) → b ≡ true → (a || (b || false)) ≡ true
or_right true b e = refl
or_right false true e = refl
or_right false false e = e

pub names_more : (objects : Keys ObjectKey) (scope : ℕ) (found : Found) (numbers : List ℕ) (names : List (List ℕ)) (i j : ℕ) (n : List ℕ) → i < length numbers → j ≡ get_or numbers i j → NamesSoFar objects scope found (take i numbers) names
    → IsTrue (has found j) → key_of objects j ≡ Some (object_key scope n) → NamesSoFar objects scope found (take (i + 1) numbers) (names ++ n ∷ [])
names_more objects scope found numbers names i j n within at so_far here is name =
    subst (λ (ns : List ℕ). IsTrue (lists_name (names ++ n ∷ []) name) ↔ ((k : ℕ) × Among ns k × (key_of objects k ≡ Some (object_key scope name)) × IsTrue (has found k))) (sym (take_more numbers i j within ∙ ap (λ z. take i numbers ++ z ∷ []) (sym at))) (
      λ h. elim (cases_Bool (lists_name names name)) [
        | inl old ↦ let t = (so_far name).0 old in (t.0, Among-left (take i numbers) (j ∷ []) t.0 t.1, t.2, t.3)
        | inr other ↦ elim (cases_Bool (same name n)) [
          | inl mine ↦ (j, Among-right (take i numbers) (j ∷ []) j (inl refl), is ∙ ap (λ z. Some (object_key scope z)) (sym (texts_same name n mine)), here)
          | inr differs ↦ absurd (false≢true (sym (list_any-append (same name) names (n ∷ []) ∙ ap (λ z. z || (same name n || false)) other ∙ ap (λ z. z || false) differs) ∙ h))
        ]
      ],
      λ t. elim (Among-split (take i numbers) (j ∷ []) t.0 t.1) [
        | inl b ↦ list_any-append (same name) names (n ∷ []) ∙ or_left (lists_name names name) (same name n || false) ((so_far name).1 (t.0, b, t.2, t.3))
        | inr (inl e) ↦
            let there : key_of objects j ≡ Some (object_key scope name) = ap (key_of objects) e ∙ t.2 in
            let keys : object_key scope n ≡ object_key scope name = cc in
            list_any-append (same name) names (n ∷ []) ∙ or_right (lists_name names name) (same name n) (ap (same name) (ap (λ (k : ObjectKey). k.name) keys) ∙ itself name)
        | inr (inr b) ↦ absurd b
      ],
    )

pub names_less : (objects : Keys ObjectKey) (scope : ℕ) (found : Found) (numbers : List ℕ) (names : List (List ℕ)) (i j : ℕ) → i < length numbers → j ≡ get_or numbers i j → NamesSoFar objects scope found (take i numbers) names
    → ((name : List ℕ) → key_of objects j ≡ Some (object_key scope name) → IsTrue (has found j) → ⊥) → NamesSoFar objects scope found (take (i + 1) numbers) names
names_less objects scope found numbers names i j within at so_far out name =
    subst (λ (ns : List ℕ). IsTrue (lists_name names name) ↔ ((k : ℕ) × Among ns k × (key_of objects k ≡ Some (object_key scope name)) × IsTrue (has found k))) (sym (take_more numbers i j within ∙ ap (λ z. take i numbers ++ z ∷ []) (sym at))) (
      λ h. let t = (so_far name).0 h in (t.0, Among-left (take i numbers) (j ∷ []) t.0 t.1, t.2, t.3),
      λ t. elim (Among-split (take i numbers) (j ∷ []) t.0 t.1) [
        | inl b ↦ (so_far name).1 (t.0, b, t.2, t.3)
        | inr (inl e) ↦ absurd (out name (ap (key_of objects) e ∙ t.2) (ap (has found) e ∙ t.3))
        | inr (inr b) ↦ absurd b
      ],
    )

pub names_all : (objects : Keys ObjectKey) (scope : ℕ) (found : Found) (numbers : List ℕ) (names : List (List ℕ)) (i : ℕ) → length numbers ≤ i → NamesSoFar objects scope found (take i numbers) names
    → ((k : ℕ) (x : ObjectKey) → key_of objects k ≡ Some x → x.scope ≡ scope → IsTrue (has found k) → Among numbers k) → AreNames objects scope found names
names_all objects scope found numbers names i past so_far walked name =
    let all = subst (λ (ns : List ℕ). IsTrue (lists_name names name) ↔ ((k : ℕ) × Among ns k × (key_of objects k ≡ Some (object_key scope name)) × IsTrue (has found k))) (take_all i numbers past) (so_far name) in (
      λ h. let t = all.0 h in (t.0, t.2, t.3),
      λ t. all.1 (t.0, walked t.0 (object_key scope name) t.1 refl t.2, t.1, t.2),
    )
