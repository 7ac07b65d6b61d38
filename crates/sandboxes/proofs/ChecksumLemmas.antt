-- The text of an MD5 is a checksum, and checksums are ASCII.
use Rattle.std.proofs.Common.{◌≡◌, ℕ, zero, suc, ◌/◌, ◌%◌, ◌<◌, ◌==◌, inl, inr, Bool, true, ◌&&◌, List, [], ◌∷◌, length, slice_index, refl, arith, eq-eqb}
use Rattle.std.specs.List.{list_all}
use Rattle.std.specs.Str.{IsAscii}
use Rattle.std.proofs.lemmas.Bool.{and_parts, cases_lt}
use Rattle.std.proofs.lemmas.Str.Ascii.{IsAscii-nil, IsAscii-cons}
use Rattle.hex.specs.Hex.{IsBytes, encode_lower, encode_with, lower_digits}
use Rattle.hex.proofs.HexLemmas.{length-encode_with}
use Rattle.sandboxes.specs.Checksums.{is_digit, is_checksum}

-- a digit is ASCII
digit_small : (c : ℕ) → is_digit c ≡ true → c < 128
digit_small c h = grind (arith)

pub IsAscii-digits : (text : List ℕ) → list_all is_digit text ≡ true → IsAscii text
IsAscii-digits [] h = IsAscii-nil
IsAscii-digits (c ∷ text) h =
    let parts = and_parts (is_digit c) (list_all is_digit text) h in
    IsAscii-cons c text (digit_small c parts.0) (IsAscii-digits text parts.1)

-- a checksum is ASCII
pub IsAscii-checksum : (text : List ℕ) → is_checksum text ≡ true → IsAscii text
IsAscii-checksum text h = IsAscii-digits text (and_parts (length text == 32) (list_all is_digit text) h).1

-- the first n digits of the table are digits
abbrev digits_below : ℕ → Bool
digits_below zero = true
digits_below (suc n) = is_digit (slice_index lower_digits n) && digits_below n

digit_below : (n k : ℕ) → digits_below n ≡ true → k < n → is_digit (slice_index lower_digits k) ≡ true
digit_below zero k h lt = absurd (omega arith)
digit_below (suc n) k h lt =
    let parts = and_parts (is_digit (slice_index lower_digits n)) (digits_below n) h in
    elim (cases_lt k n) [
      | inl below ↦ digit_below n k parts.1 below
      | inr top ↦ let e : k ≡ n = omega arith in rw e parts.0
    ]

-- what hex writes are digits
pub list_all-encode_lower : (bytes : List ℕ) → IsBytes bytes → list_all is_digit (encode_lower bytes) ≡ true
unfolding encode_with
list_all-encode_lower [] bound = refl
list_all-encode_lower (b ∷ rest) bound =
    let fits : b < 256 = bound 0 in
    let high : is_digit (slice_index lower_digits (b / 16)) ≡ true = digit_below 16 (b / 16) refl (omega arith) in
    let low : is_digit (slice_index lower_digits (b % 16)) ≡ true = digit_below 16 (b % 16) refl (omega arith) in
    rw (high, low) (list_all-encode_lower rest (λ k. bound (suc k)))

-- the text of 16 bytes is a checksum
pub is_checksum-encode_lower : (digest : List ℕ) → IsBytes digest → length digest ≡ 16 → is_checksum (encode_lower digest) ≡ true
is_checksum-encode_lower digest bound long =
    let len = length-encode_with lower_digits digest in
    let same : length (encode_lower digest) ≡ 32 = omega (arith, len, long) in
    rw (eq-eqb (length (encode_lower digest)) 32 same) (list_all-encode_lower digest bound)
