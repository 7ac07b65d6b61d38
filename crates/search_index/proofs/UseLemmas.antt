-- How often words are used: sums over the terms, which change by one term where one place changes.
use Rattle.std.proofs.Common.{◌≡◌, ◌≢◌, ℕ, zero, suc, ◌+◌, ◌*◌, ◌<◌, ◌≤◌, inl, inr, Bool, true, false, eqb, List, [], ◌∷◌, length, Option, Some, None, sum_by, refl, sym, ap, subst, ◌∙◌, arith}
use Rattle.std.proofs.lemmas.Bool.{cases_Bool, cases_eq, eq-eqb, eqb-true}
use Rattle.std.proofs.lemmas.List.{get_or_past}
use Rattle.std.proofs.lemmas.List.Sums.{sum_by-cons}
use Rattle.ordered_keys.specs.Keys.{key_in}
use Rattle.search_index.specs.Words.{Releases, TakesIn, Vocabulary, uses_at}
use Rattle.search_index.specs.Terms.{all_uses, one_if, uses_of}
use Rattle.search_index.specs.declared.key.TermNumbers.{TermNumbers}

pub one_here : (n i : ℕ) → n ≡ i → one_if (eqb n i) ≡ 1
one_here n i e = ap one_if (eq-eqb n i e)

one_there : (n i : ℕ) → n ≢ i → one_if (eqb n i) ≡ 0
one_there n i differs = elim (cases_Bool (eqb n i)) [ inl same ↦ absurd (differs (eqb-true n i same)) | inr other ↦ ap one_if other ]

one_most : (b : Bool) → one_if b ≤ 1
one_most true = omega arith
one_most false = omega arith

-- a use more, and a use fewer
pub taken_one : (old new : Vocabulary) (word : List ℕ) (n i : ℕ) → TakesIn old new word n → uses_at new i ≡ uses_at old i + one_if (eqb n i)
taken_one old new word n i takes = elim (cases_eq i n) [
  | inl e ↦ let one = one_here n i (sym e) in let used : uses_at new i ≡ uses_at old i + 1 = subst (λ z. uses_at new z ≡ uses_at old z + 1) (sym e) takes.used in omega arith
  | inr differs ↦ let none = one_there n i (λ e. differs (sym e)) in let same = takes.others i differs in omega arith
]

pub taken_most : (old new : Vocabulary) (word : List ℕ) (n i : ℕ) → TakesIn old new word n → uses_at new i ≤ uses_at old i + 1
taken_most old new word n i takes = let more = taken_one old new word n i takes in let one = one_most (eqb n i) in omega arith

pub released_one : (old new : Vocabulary) (n i : ℕ) → Releases old new n → uses_at new i + one_if (eqb n i) ≡ uses_at old i
released_one old new n i releases = elim (cases_eq i n) [
  | inl e ↦ let one = one_here n i (sym e) in let used : uses_at new i + 1 ≡ uses_at old i = subst (λ z. uses_at new z + 1 ≡ uses_at old z) (sym e) releases.used in omega arith
  | inr differs ↦ let none = one_there n i (λ e. differs (sym e)) in let same = releases.others i differs in omega arith
]

-- a term uses its two words, and none more than twice
pub uses_field : (t : TermNumbers) → 1 ≤ uses_of t.field (Some t)
uses_field t = let one = one_here t.field t.field refl in omega arith

pub uses_value : (t : TermNumbers) → 1 ≤ uses_of t.value (Some t)
uses_value t = let one = one_here t.value t.value refl in omega arith

uses_most : (i : ℕ) (o : Option TermNumbers) → uses_of i o ≤ 2
uses_most i None = omega arith
uses_most i (Some t) = let one = one_most (eqb t.field i) in let two = one_most (eqb t.value i) in omega arith

module _ {X : Type 0} (w : Option X → ℕ) (none : w None ≡ 0) where
  -- the sum is the same over the same places, with more of them empty or fewer
  sum_same : (xs ys : List (Option X)) → ((i : ℕ) → key_in ys i ≡ key_in xs i) → sum_by w ys ≡ sum_by w xs
  sum_same [] [] same = refl
  sum_same [] (y ∷ ys) same =
      let here : w y ≡ 0 = ap w (same 0 ∙ get_or_past [] 0 None (omega arith)) ∙ none in
      let rest : sum_by w ys ≡ sum_by w [] = sum_same [] ys (λ i. same (suc i) ∙ get_or_past [] (suc i) None (omega arith) ∙ sym (get_or_past [] i None (omega arith))) in
      let step = sum_by-cons w y ys in omega arith
  sum_same (x ∷ xs) [] same =
      let here : w x ≡ 0 = ap w (sym (same 0) ∙ get_or_past [] 0 None (omega arith)) ∙ none in
      let rest : sum_by w [] ≡ sum_by w xs = sum_same xs [] (λ i. get_or_past [] i None (omega arith) ∙ sym (get_or_past [] (suc i) None (omega arith)) ∙ same (suc i)) in
      let step = sum_by-cons w x xs in omega arith
  sum_same (x ∷ xs) (y ∷ ys) same =
      let here : w y ≡ w x = ap w (same 0) in
      let rest : sum_by w ys ≡ sum_by w xs = sum_same xs ys (λ i. same (suc i)) in
      let one = sum_by-cons w x xs in let two = sum_by-cons w y ys in omega arith

  -- one place changes
  pub sum_changed : (xs ys : List (Option X)) (id : ℕ) → length ys ≡ length xs → id < length xs → ((i : ℕ) → i ≢ id → key_in ys i ≡ key_in xs i) → sum_by w ys + w (key_in xs id) ≡ sum_by w xs + w (key_in ys id)
  sum_changed [] ys id size within others = absurd (omega arith)
  sum_changed (x ∷ xs) [] id size within others = absurd (omega arith)
  sum_changed (x ∷ xs) (y ∷ ys) zero size within others =
      let rest : sum_by w ys ≡ sum_by w xs = sum_same xs ys (λ i. others (suc i) (λ e. absurd (omega (arith, e)))) in
      let one = sum_by-cons w x xs in let two = sum_by-cons w y ys in omega arith
  sum_changed (x ∷ xs) (y ∷ ys) (suc id) size within others =
      let here : w y ≡ w x = ap w (others 0 (λ e. absurd (omega (arith, e)))) in
      let rest = sum_changed xs ys id (omega (arith, size)) (omega (arith, within)) (λ i differs. others (suc i) (λ e. differs (omega (arith, e)))) in
      let one = sum_by-cons w x xs in let two = sum_by-cons w y ys in omega arith

  -- each place counts
  pub sum_holds : (xs : List (Option X)) (i : ℕ) → w (key_in xs i) ≤ sum_by w xs
  sum_holds [] i = let past : w (key_in [] i) ≡ 0 = ap w (get_or_past [] i None (omega arith)) ∙ none in omega arith
  sum_holds (x ∷ xs) zero = let one = sum_by-cons w x xs in omega arith
  sum_holds (x ∷ xs) (suc i) = let one = sum_by-cons w x xs in let rest = sum_holds xs i in omega arith

  sum_most : ((o : Option X) → w o ≤ 2) → (xs : List (Option X)) → sum_by w xs ≤ 2 * length xs
  sum_most most [] = omega arith
  sum_most most (x ∷ xs) = let one = sum_by-cons w x xs in let here = most x in let rest = sum_most most xs in omega arith

-- what all terms use: the same of the same terms, one term's share more or less, at least that of each, and at most twice their number
pub uses_same : (i : ℕ) (old new : List (Option TermNumbers)) → ((j : ℕ) → key_in new j ≡ key_in old j) → all_uses new i ≡ all_uses old i
uses_same i old new same = sum_same (uses_of i) refl old new same

pub uses_changed : (i : ℕ) (old new : List (Option TermNumbers)) (id : ℕ) → length new ≡ length old → id < length old → ((j : ℕ) → j ≢ id → key_in new j ≡ key_in old j) → all_uses new i + uses_of i (key_in old id) ≡ all_uses old i + uses_of i (key_in new id)
uses_changed i old new id size within others = sum_changed (uses_of i) refl old new id size within others

pub uses_hold : (i : ℕ) (slots : List (Option TermNumbers)) (j : ℕ) (t : TermNumbers) → key_in slots j ≡ Some t → uses_of i (Some t) ≤ all_uses slots i
uses_hold i slots j t is = subst (λ o. uses_of i o ≤ all_uses slots i) is (sum_holds (uses_of i) refl slots j)

pub uses_few : (i : ℕ) (slots : List (Option TermNumbers)) → all_uses slots i ≤ 2 * length slots
uses_few i slots = sum_most (uses_of i) refl (uses_most i) slots
