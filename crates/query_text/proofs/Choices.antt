-- Tests of bytes, and choices by them.
use Rattle.std.proofs.Common.{◌≡◌, ◌==◌, ◌||◌, ◌&&◌, ◌-◌, bytes_eq, ℕ, zero, suc, arith, Bool, true, false, List, [], ◌∷◌, Option, Some, None, if◌then◌else◌, refl, ap, inl, inr}
use Rattle.std.proofs.lemmas.Bool.Decides.{eqb_tells}
use Rattle.std.proofs.lemmas.Slice.Eq.{bytes_eq-Decides}
use Rattle.std.specs.List.{list_all}
use Rattle.query_text.specs.Grammar.{is_gap}
use Rattle.query_text.specs.Signs.{is_space, is_field_byte, is_field_start, is_quoted_byte, is_word_byte}

-- a fact of what is there, and there is something
abbrev pub Holds : {A : Type 0} → (A → Type 0) → Option A → Type 0
Holds P None = ⊥
Holds P (Some x) = P x

-- what holds of either choice, by the test
pub if_some : {A : Type 0} (P : A → Type 0) (R : Type 0) (t : Bool) (x y : Option A)
    → Holds P (if t then x else y) → (t ≡ true → Holds P x → R) → (t ≡ false → Holds P y → R) → R
if_some P R true x y h this other = this refl h
if_some P R false x y h this other = other refl h

-- a byte that a test takes isn't one that it doesn't take
pub is_not : (p : ℕ → Bool) (k b : ℕ) → p k ≡ false → p b ≡ true → (b == k) ≡ false
is_not p k b other this = elim (eqb_tells b k) [
  | inl w ↦ cc (ap p w.1)
  | inr w ↦ w.0
]

pub or_false : (a b : Bool) → a ≡ false → b ≡ false → (a || b) ≡ false
or_false a b x y = rw (x, y) refl

pub or_true : (a b : Bool) → a ≡ true → (a || b) ≡ true
or_true a b x = rw x refl

-- a test that takes no white space
pub not_space : (p : ℕ → Bool) (b : ℕ) → p 32 ≡ false → p 9 ≡ false → p 10 ≡ false → p 11 ≡ false → p 12 ≡ false → p 13 ≡ false → p b ≡ true → is_space b ≡ false
not_space p b h32 h9 h10 h11 h12 h13 this =
    rw (is_not p 32 b h32 this, is_not p 9 b h9 this, is_not p 10 b h10 this, is_not p 11 b h11 this, is_not p 12 b h12 this, is_not p 13 b h13 this) refl

pub field_not_space : (b : ℕ) → is_field_byte b ≡ true → is_space b ≡ false
field_not_space b this = not_space is_field_byte b refl refl refl refl refl refl this

pub start_not_space : (b : ℕ) → is_field_start b ≡ true → is_space b ≡ false
start_not_space b this = not_space is_field_start b refl refl refl refl refl refl this

pub word_not_space : (b : ℕ) → is_word_byte b ≡ true → is_space b ≡ false
word_not_space b this = not_space is_word_byte b refl refl refl refl refl refl this

-- a byte that isn't one of the two marks stands for itself in quotes
pub quoted_byte : (b : ℕ) → (b == 34) ≡ false → (b == 92) ≡ false → is_quoted_byte b ≡ true
quoted_byte b x y = rw (x, y) refl

pub and_true : (a b : Bool) → a ≡ true → b ≡ true → (a && b) ≡ true
and_true a b x y = rw (x, y) refl

-- neither of two, and one of them
pub or_none : (a b : Bool) (R : Type 0) → a ≡ false → b ≡ false → (a || b) ≡ true → R
or_none a b R x y may = let none : (a || b) ≡ false = rw (x, y) refl in cc

pub left_is : (n : ℕ) → (n == 0) ≡ false → n ≡ suc (n - 1)
left_is zero none = cc
left_is (suc n) some = omega arith

-- a gap is white space
pub gap_spaces : (may_lack : Bool) (gap : List ℕ) → is_gap may_lack gap ≡ true → list_all is_space gap ≡ true
gap_spaces may_lack [] is = refl
gap_spaces may_lack (b ∷ gap) is = is

pub bytes_same : (xs ys : List ℕ) → bytes_eq xs ys ≡ true → xs ≡ ys
bytes_same xs ys is = (bytes_eq-Decides xs ys).0 is
