-- The text of a SHA-256 is a Name.
use Rattle.std.proofs.Common.{◌≡◌, ℕ, zero, suc, ◌/◌, ◌%◌, ◌<◌, inl, inr, Bool, true, ◌&&◌, List, [], ◌∷◌, length, slice_index, nat_le, nat_lt, refl, arith}
use Rattle.std.proofs.lemmas.Bool.{and_parts, cases_lt}
use Rattle.std.specs.List.{list_all}
use Rattle.doc_tree.specs.Name.{is_name, is_name_byte}
use Rattle.hex.specs.Hex.{IsBytes, encode_lower, encode_with, lower_digits}
use Rattle.hex.proofs.HexLemmas.{length-encode_with}

-- the first n digits of the table may stand in a Name
abbrev named_below : ℕ → Bool
named_below zero = true
named_below (suc n) = is_name_byte (slice_index lower_digits n) && named_below n

digit_below : (n k : ℕ) → named_below n ≡ true → k < n → is_name_byte (slice_index lower_digits k) ≡ true
digit_below zero k h lt = absurd (omega arith)
digit_below (suc n) k h lt =
    let parts = and_parts (is_name_byte (slice_index lower_digits n)) (named_below n) h in
    elim (cases_lt k n) [
      | inl below ↦ digit_below n k parts.1 below
      | inr top ↦ let e : k ≡ n = omega arith in rw e parts.0
    ]

all_named : (bytes : List ℕ) → IsBytes bytes → list_all is_name_byte (encode_lower bytes) ≡ true
unfolding encode_with
all_named [] bound = refl
all_named (b ∷ rest) bound =
    let fits : b < 256 = bound 0 in
    let high : is_name_byte (slice_index lower_digits (b / 16)) ≡ true = digit_below 16 (b / 16) refl (omega arith) in
    let low : is_name_byte (slice_index lower_digits (b % 16)) ≡ true = digit_below 16 (b % 16) refl (omega arith) in
    rw (high, low) (all_named rest (λ k. bound (suc k)))

named_by_length : (text : List ℕ) (n : ℕ) → length text ≡ n → nat_lt 0 n ≡ true → nat_le n 255 ≡ true → list_all is_name_byte text ≡ true → is_name text ≡ true
named_by_length text n long some few all = rw (long, some, few) all

-- the text of 32 bytes is a Name
pub is_name-encode_lower : (digest : List ℕ) → IsBytes digest → length digest ≡ 32 → is_name (encode_lower digest) ≡ true
is_name-encode_lower digest bound long =
    let len = length-encode_with lower_digits digest in
    let same : length (encode_lower digest) ≡ 64 = omega (arith, len, long) in
    named_by_length (encode_lower digest) 64 same refl refl (all_named digest bound)
