-- The decimal text of a number, as a part of a version.
use Rattle.std.proofs.Common.{◌≡◌, ℕ, ◌-◌, ◌^◌, ◌<◌, ◌==◌, true, false, ltb, List, [], ◌∷◌, ◌++◌, length, get_or, reverse, decimal, ap, ◌∙◌, arith, refl, rules}
use Rattle.std.specs.Char.{is_ascii_digit}
use Rattle.std.specs.List.{All, list_all}
use Rattle.std.specs.Str.Parse.{digits_value}
use Rattle.std.proofs.lemmas.Bool.{and_from, and_parts, and_right, ltb-true, lt-ltb, lt-leb}
use Rattle.std.proofs.lemmas.Bool.Decides.{nat_tests}
use Rattle.std.proofs.lemmas.Fmt.{decimal_nonempty, digits_decimal, digits_value-decimal}
use Rattle.std.proofs.lemmas.List.{reverse-append, reverse-reverse, length-reverse, get_or-reverse}
use Rattle.std.proofs.lemmas.List.Folds.{list_all-append}
use Rattle.std.proofs.lemmas.List.Splits.{slice_split_at, slice_split_none}
use Rattle.std.proofs.lemmas.List.Sums.{AllPass-from_list_all}
use Rattle.std.proofs.lemmas.Str.Parse.{IsDigitsTest, IsNumeralModel, numerals_by_value}
use Rattle.version_rules.specs.Constraints.{without_front_spaces, without_last_spaces}
use Rattle.version_rules.specs.Versions.{is_number, is_too_large, parts_of}
use Rattle.version_rules.proofs.VersionLemmas.{digit_at}

tells_digits : IsDigitsTest (λ ds. list_all is_ascii_digit ds ≡ true)
tells_digits = search rules

numerals : IsNumeralModel (λ ds. list_all is_ascii_digit ds ≡ true) (digits_value 10)
numerals = numerals_by_value _ tells_digits

-- what a number writes is a number
pub is_number-decimal : (n : ℕ) → n < 2 ^ 64 → is_number (decimal n) ≡ true
is_number-decimal n fits = and_from _ _ (lt-ltb 0 (length (decimal n)) (decimal_nonempty n fits)) (digits_decimal numerals n fits)

-- and that number
pub value-decimal : (n : ℕ) → n < 2 ^ 64 → digits_value 10 (decimal n) ≡ n
value-decimal n fits = digits_value-decimal numerals n fits

-- which is not too large
pub is_too_large-decimal : (n : ℕ) → n < 2 ^ 64 → is_too_large (decimal n) ≡ false
is_too_large-decimal n fits = rw (value-decimal n fits) (lt-leb (2 ^ 64) n fits)

digit-no_dot : (b : ℕ) → is_ascii_digit b ≡ true → (b == 46) ≡ false
digit-no_dot b digit = grind (arith, nat_tests)

digit-no_space : (b : ℕ) → is_ascii_digit b ≡ true → (b == 32) ≡ false
digit-no_space b digit = grind (arith, nat_tests)

-- a number has no dot
no_dots : (part : List ℕ) → is_number part ≡ true → All (λ b. (b == 46) ≡ false) part
no_dots part number k d inside =
    digit-no_dot _ (AllPass-from_list_all is_ascii_digit part (and_parts (ltb 0 (length part)) (list_all is_ascii_digit part) number).1 k d inside)

-- a number is the first part of a text in which a dot follows it
pub parts_of-number_dot : (part rest : List ℕ) → is_number part ≡ true → parts_of (part ++ 46 ∷ rest) ≡ part ∷ parts_of rest
parts_of-number_dot part rest number = slice_split_at (λ (b : ℕ). b == 46) part 46 rest (no_dots part number) refl

-- and the only part of itself
pub parts_of-number : (part : List ℕ) → is_number part ≡ true → parts_of part ≡ part ∷ []
parts_of-number part number = slice_split_none (λ (b : ℕ). b == 46) part (no_dots part number)

-- a text with a dot is no number
pub is_number-dot : (part rest : List ℕ) → is_number (part ++ 46 ∷ rest) ≡ false
is_number-dot part rest =
    and_right _ _ (list_all-append is_ascii_digit part (46 ∷ rest) ∙ and_right (list_all is_ascii_digit part) _ refl)

-- what begins with a digit has no spaces in front of it
front_stays : (part rest : List ℕ) → 0 < length part → is_ascii_digit (get_or part 0 0) ≡ true → without_front_spaces (part ++ rest) ≡ part ++ rest
front_stays [] rest some digit = absurd (omega arith)
front_stays (b ∷ bs) rest some digit = rw (digit-no_space b digit) refl

some_digits : (part : List ℕ) → is_number part ≡ true → 0 < length part
some_digits part number = ltb-true 0 (length part) (and_parts (ltb 0 (length part)) (list_all is_ascii_digit part) number).0

-- no space stands before a number
pub without_front_spaces-number : (part rest : List ℕ) → is_number part ≡ true → without_front_spaces (part ++ rest) ≡ part ++ rest
without_front_spaces-number part rest number =
    let some = some_digits part number in
    front_stays part rest some (digit_at part 0 number some)

-- nor behind one
pub without_last_spaces-number : (front part : List ℕ) → is_number part ≡ true → without_last_spaces (front ++ part) ≡ front ++ part
without_last_spaces-number front part number =
    let some = some_digits part number in
    let last : get_or (reverse part) 0 0 ≡ get_or part (length part - 1 - 0) 0 = get_or-reverse part 0 0 some in
    let stays = front_stays (reverse part) (reverse front) (omega (arith, length-reverse part)) (ap is_ascii_digit last ∙ digit_at part (length part - 1 - 0) number (omega arith)) in
    let same : without_front_spaces (reverse (front ++ part)) ≡ reverse (front ++ part) = rw (reverse-append front part) stays in
    ap reverse same ∙ reverse-reverse (front ++ part)
