-- What `parse` reads in a number of at most ten digits.
use Rattle.std.proofs.Common.{◌≡◌, ℕ, true, ◌&&◌, not, ◌==◌, List, [], ◌∷◌, length, nat_le, ◌<◌, ◌≤◌, arith, rules, refl}
use Rattle.std.specs.Prelude.{Result, Ok}
use Rattle.std.specs.Char.{is_ascii_digit}
use Rattle.std.specs.List.{list_all}
use Rattle.std.specs.Str.Parse.{ParsesUnsigned, digits_value}
use Rattle.std.proofs.lemmas.Bool.{and_parts, leb-true}
use Rattle.std.proofs.lemmas.Str.Parse.{IsNumeralModel, digits_value_short, numerals_by_value, parse_gives}
use Rattle.command_words.specs.Words.{is_number}

own : IsNumeralModel (λ ds. list_all is_ascii_digit ds ≡ true) (digits_value 10)
own = numerals_by_value _ (search rules)

-- a number is digits, and not more than ten
number_digits : (bs : List ℕ) → is_number bs ≡ true → (list_all is_ascii_digit bs ≡ true) × (0 < length bs) × (length bs ≤ 10)
number_digits [] is = cc is
number_digits (d ∷ []) is = (rw is refl, omega arith, omega arith)
number_digits (d ∷ e ∷ ds) is =
    let parts = and_parts (not (d == 48)) (nat_le (length ds) 8 && list_all is_ascii_digit (d ∷ e ∷ ds)) is in
    let more = and_parts (nat_le (length ds) 8) (list_all is_ascii_digit (d ∷ e ∷ ds)) parts.1 in
    let few = leb-true (length ds) 8 more.0 in
    (more.1, omega arith, omega (arith, few))

pub number_parsed : {E : Type 0} → (bs : List ℕ) (r : Result ℕ E) → ParsesUnsigned 64 10 bs r → is_number bs ≡ true → r ≡ Ok (digits_value 10 bs)
number_parsed bs r h is =
    let digits = number_digits bs is in
    parse_gives own 64 bs r h digits.0 digits.1 (omega (arith, digits_value_short own bs 10 digits.0 digits.2))
