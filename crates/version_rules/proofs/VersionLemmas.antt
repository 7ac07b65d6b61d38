-- What the digits of a part are worth, and which lists of parts are no version.
use Rattle.std.proofs.Common.{◌≡◌, ℕ, suc, ◌+◌, ◌-◌, ◌*◌, ◌^◌, ◌<◌, ◌≤◌, true, List, ◌∷◌, length, get_or, take, Ok, Err, ap, ◌∙◌, arith, refl, ltb, ◌==◌}
use Rattle.std.specs.Char.{is_ascii_digit, digit_value}
use Rattle.std.specs.List.{list_all}
use Rattle.std.specs.Str.Parse.{digits_value}
use Rattle.std.proofs.lemmas.Bool.{and_parts, ne_eqb, le-leb, lt-leb}
use Rattle.std.proofs.lemmas.Bool.Decides.{nat_tests}
use Rattle.std.proofs.lemmas.Int.Digits.{digits_value_more}
use Rattle.std.proofs.lemmas.List.Splits.{length-slice_split}
use Rattle.std.proofs.lemmas.List.Sums.{AllPass-from_list_all}
use Rattle.std.proofs.lemmas.Str.Parse.{digits_value-take-le}
use Rattle.version_rules.specs.declared.fault.VersionFault.TheVariants.{NotAVersion, PartTooLarge}
use Rattle.version_rules.specs.Versions.{is_number, parts_of, reads_number, version_of}

digit_value_is : (b : ℕ) → is_ascii_digit b ≡ true → digit_value b ≡ b - 48
digit_value_is b digit = grind (arith, nat_tests)

-- each byte of a number is a digit
pub digit_at : (part : List ℕ) (i : ℕ) → is_number part ≡ true → i < length part → is_ascii_digit (get_or part i 0) ≡ true
digit_at part i number inside = AllPass-from_list_all is_ascii_digit part (and_parts (ltb 0 (length part)) (list_all is_ascii_digit part) number).1 i 0 inside

-- one digit more makes ten times the number, and the digit
pub value_more : (part : List ℕ) (i : ℕ) → is_number part ≡ true → i < length part
    → digits_value 10 (take (i + 1) part) ≡ digits_value 10 (take i part) * 10 + (get_or part i 0 - 48)
value_more part i number inside =
    digits_value_more 10 part i inside ∙ ap (λ d. digits_value 10 (take i part) * 10 + d) (digit_value_is _ (digit_at part i number inside))

-- where the first digits are too large already, the part is
pub reads_large : (part : List ℕ) (i : ℕ) → is_number part ≡ true → i < length part
    → 2 ^ 64 ≤ digits_value 10 (take i part) * 10 + (get_or part i 0 - 48) → reads_number part ≡ Err PartTooLarge
reads_large part i number inside large =
    let most = digits_value-take-le 10 part (i + 1) (omega arith) in
    let more = value_more part i number inside in
    rw (le-leb (2 ^ 64) (digits_value 10 part) (omega arith)) refl

-- and a number of 64 bits is what it reads
pub reads_small : (part : List ℕ) → digits_value 10 part < 2 ^ 64 → reads_number part ≡ Ok (digits_value 10 part)
reads_small part small = rw (lt-leb (2 ^ 64) (digits_value 10 part) small) refl

-- four parts and more are no version
pub version_of-four : (major minor patch rest : List ℕ) → version_of (major ∷ minor ∷ patch ∷ parts_of rest) ≡ Err NotAVersion
version_of-four major minor patch rest =
    let many = length-slice_split (λ (b : ℕ). b == 46) rest in
    let n = length (parts_of rest) in
    rw (ne_eqb (suc (suc (suc n))) 2 (λ e. omega arith), ne_eqb (suc (suc (suc n))) 3 (λ e. omega arith)) refl
