-- Tests, and lists with some element that passes one.
use Rattle.std.proofs.Common.{◌≡◌, ◌∙◌, ◌⊎◌, ◌↔◌, ◌&&◌, ◌||◌, ℕ, zero, suc, Bool, true, false, cond, not, List, [], ◌∷◌, Option, None, IsTrue, bytes_eq, ap, inl, inr, refl, sym}
use Rattle.std.specs.Prelude.{slice_index_or}
use Rattle.std.specs.List.{list_any, filter}
use Rattle.std.specs.Cmp.Lexicographic.{bytes_decides}
use Rattle.std.proofs.lemmas.Bool.{cases_Bool, false≢true}

-- ---- tests

pub no : {A : Type 0} → IsTrue false → A
no is = absurd (false≢true is)

-- tests that tell facts which imply each other are one
pub one_test : {P Q : Type 0} (a b : Bool) → (IsTrue a ↔ P) → (IsTrue b ↔ Q) → (P ↔ Q) → a ≡ b
one_test true true of_a of_b same = refl
one_test true false of_a of_b same = no (of_b.1 (same.0 (of_a.0 refl)))
one_test false true of_a of_b same = no (of_a.1 (same.1 (of_b.0 refl)))
one_test false false of_a of_b same = refl

-- two tests both pass where both facts hold
pub both_told : {P Q : Type 0} (a b : Bool) → (IsTrue a ↔ P) → (IsTrue b ↔ Q) → IsTrue (a && b) ↔ (P × Q)
both_told true b of_a of_b = (λ is. (of_a.0 refl, of_b.0 is), λ h. of_b.1 h.1)
both_told false b of_a of_b = (λ is. no is, λ h. of_a.1 h.0)

-- and one of them where one fact holds
pub either_told : {P Q : Type 0} (a b : Bool) → (IsTrue a ↔ P) → (IsTrue b ↔ Q) → IsTrue (a || b) ↔ (P ⊎ Q)
either_told true b of_a of_b = (λ is. inl (of_a.0 refl), λ h. refl)
either_told false b of_a of_b = (λ is. inr (of_b.0 is), λ h. elim h [ inl p ↦ no (of_a.1 p) | inr q ↦ of_b.1 q ])

-- a test that is turned round passes where the fact doesn't hold
pub not_told : {P : Type 0} (a : Bool) → (IsTrue a ↔ P) → IsTrue (not a) ↔ (P → ⊥)
not_told true of_a = (λ is. no is, λ h. absurd (h (of_a.0 refl)))
not_told false of_a = (λ is. λ p. false≢true (of_a.1 p), λ h. refl)

-- a test is the fact that it passes
pub itself_told : (a : Bool) → IsTrue a ↔ IsTrue a
itself_told a = (λ is. is, λ is. is)

-- a fact that doesn't hold is told by no test
pub never_told : {P : Type 0} (a : Bool) → (IsTrue a ↔ P) → (P → ⊥) → a ≡ false
never_told true of_a never = absurd (never (of_a.0 refl))
never_told false of_a never = refl

-- equal texts are told
pub text_told : (xs ys : List ℕ) → IsTrue (bytes_eq xs ys) ↔ (ys ≡ xs)
text_told xs ys = (λ is. sym ((bytes_decides xs ys).0 is), λ same. (bytes_decides xs ys).1 (sym same))

-- ---- slots

module _ {A : Type 0} (p : Option A → Bool) where
  any_from : (slots : List (Option A)) → IsTrue (list_any p slots) → (k : ℕ) × IsTrue (p (slice_index_or slots k None))
  any_from [] is = no is
  any_from (x ∷ slots) is = elim (cases_Bool (p x)) [
    | inl here ↦ (0, here)
    | inr other ↦ let rest = any_from slots (sym (ap (λ b. b || list_any p slots) other) ∙ is) in (suc rest.0, rest.1)
  ]

  any_at : IsTrue (p None) ↔ ⊥ → (slots : List (Option A)) (k : ℕ) → IsTrue (p (slice_index_or slots k None)) → IsTrue (list_any p slots)
  any_at none [] k is = absurd (none.0 is)
  any_at none (x ∷ slots) zero is = ap (λ b. b || list_any p slots) is
  any_at none (x ∷ slots) (suc k) is = (either_told (p x) (list_any p slots) (itself_told (p x)) (itself_told (list_any p slots))).1 (inr (any_at none slots k is))

  -- a test that nothing passes is passed by one of the slots where it is passed under a number
  pub any_told : IsTrue (p None) ↔ ⊥ → (slots : List (Option A)) → IsTrue (list_any p slots) ↔ ((k : ℕ) × IsTrue (p (slice_index_or slots k None)))
  any_told none slots = (any_from slots, λ h. any_at none slots h.0 h.1)

-- ---- names

and_false : (a : Bool) → (a && false) ≡ false
and_false true = refl
and_false false = refl

module _ (p : List ℕ → Bool) where
  filtered_by : (x : List ℕ) (names : List (List ℕ)) (name : List ℕ) (passes same : Bool) → p x ≡ passes → bytes_eq name x ≡ same → list_any (bytes_eq name) (filter p names) ≡ (list_any (bytes_eq name) names && p name)
      → list_any (bytes_eq name) (cond passes (x ∷ filter p names) (filter p names)) ≡ ((same || list_any (bytes_eq name) names) && p name)
  filtered_by x names name true true is same rest = ap (λ b. b || list_any (bytes_eq name) (filter p names)) same ∙ sym (ap p ((bytes_decides name x).0 same) ∙ is)
  filtered_by x names name true false is same rest = ap (λ b. b || list_any (bytes_eq name) (filter p names)) same ∙ rest
  filtered_by x names name false true is same rest =
      let fails = ap p ((bytes_decides name x).0 same) ∙ is in
      rest ∙ ap (λ b. list_any (bytes_eq name) names && b) fails ∙ and_false (list_any (bytes_eq name) names) ∙ sym fails
  filtered_by x names name false false is same rest = rest

  -- a name is among those that pass a test where it is among all and passes
  pub any_filtered : (names : List (List ℕ)) (name : List ℕ) → list_any (bytes_eq name) (filter p names) ≡ (list_any (bytes_eq name) names && p name)
  any_filtered [] name = refl
  any_filtered (x ∷ names) name = filtered_by x names name (p x) (bytes_eq name x) refl refl (any_filtered names name)
