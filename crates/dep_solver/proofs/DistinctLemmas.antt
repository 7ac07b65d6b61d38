-- Lists of names without repeats, told name by name.
use Rattle.std.proofs.Common.{◌≡◌, ℕ, ◌+◌, ◌<◌, ◌≤◌, true, false, List, [], ◌∷◌, ◌++◌, length, take, get_or, Contains, arith, ap, sym, subst, ◌∙◌, take_all, length-take, get_or-take}
use Rattle.std.proofs.lemmas.List.{take_more}
use Rattle.std.proofs.lemmas.Map.Keys.{IsDistinct-push, apart_from_distinct}
use Rattle.std.proofs.lemmas.Map.Views.{Contains-from_any}
use Rattle.std.specs.Cmp.Lexicographic.{nat_list_eq_equiv}
use Rattle.std.specs.List.{IsDistinct}
use Rattle.std.specs.Set.{is_member}
use Rattle.dep_solver.specs.Names.{CookbookName, same_name}
use Rattle.dep_solver.proofs.WalkLemmas.{name_from_same}

pub distinct_none : IsDistinct same_name []
unfolding IsDistinct
distinct_none = tt

pub distinct_more : (xs : List CookbookName) (i : ℕ) (x : CookbookName) → i < length xs → x ≡ get_or xs i x → is_member same_name (take i xs) x ≡ false → IsDistinct same_name (take i xs) → IsDistinct same_name (take (i + 1) xs)
distinct_more xs i x within is new distinct =
    subst (IsDistinct same_name) (ap (λ z. take i xs ++ z ∷ []) is ∙ sym (take_more xs i x within)) (IsDistinct-push nat_list_eq_equiv (take i xs) x distinct new)

repeated : (xs : List CookbookName) (i k : ℕ) (x : CookbookName) → i < length xs → x ≡ get_or xs i x → k < i → get_or xs k x ≡ x → IsDistinct same_name xs → ⊥
repeated xs i k x within is below e distinct =
    let apart : same_name (get_or xs k x) (get_or xs i x) ≡ false = apart_from_distinct same_name xs k i x distinct below within in
    let one : same_name x x ≡ false = subst (λ z. same_name z x ≡ false) e (subst (λ z. same_name (get_or xs k x) z ≡ false) (sym is) apart) in
    let two : same_name x x ≡ true = nat_list_eq_equiv.refl x in
    cc (one, two)

pub not_distinct : (xs : List CookbookName) (i : ℕ) (x : CookbookName) → i < length xs → x ≡ get_or xs i x → is_member same_name (take i xs) x ≡ true → IsDistinct same_name xs → ⊥
not_distinct xs i x within is old distinct =
    let at : Contains (take i xs) x = Contains-from_any name_from_same x (take i xs) old in
    let below : at.0 < i = omega (arith, at.1, length-take i xs) in
    repeated xs i at.0 x within is below (sym (get_or-take i xs at.0 x below) ∙ at.2) distinct

pub distinct_all : (xs : List CookbookName) (i : ℕ) → length xs ≤ i → IsDistinct same_name (take i xs) → IsDistinct same_name xs
distinct_all xs i past distinct = subst (IsDistinct same_name) (take_all i xs past) distinct
