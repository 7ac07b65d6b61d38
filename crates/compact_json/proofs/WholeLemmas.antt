-- The whole numbers of a document, as texts.
use Rattle.std.proofs.Common.{◌≡◌, ℕ, ◌^◌, ◌<◌, ℤ, pos, negsuc, List, Some, Result, Ok, Err, w64, FitsSigned, sym, ap, ◌∙◌, subst, arith}
use Rattle.std.proofs.lemmas.Fmt.{parse-decimal, parse-signed_decimal}
use Rattle.std.proofs.lemmas.Int.{ints}
use Rattle.std.specs.Fmt.{signed_decimal}
use Rattle.std.specs.Str.Parse.{IsNumeral, without_leading_plus, ParsesUnsigned, ParsesSigned}
use Rattle.std.specs.Result.{OkIff}
use Rattle.json.specs.Print.{IsNumber}
use Rattle.json.proofs.Printed.Decimals.{IsNumber-decimal, IsNumber-signed_decimal}
use Rattle.serde_json.specs.Find.{of_integer}
use Rattle.serde_json.specs.Read.{number_of}
use Rattle.serde_json.specs.Written.{number_text}
use Rattle.serde_json.proofs.Numbers.{number_of-decimal, number_of-negative}
use Rattle.doc_tree.specs.Number.{IsWhole}
use Rattle.compact_json.specs.Whole.{IsWholeText}

pub below_top : (n : ℕ) → IsWhole (pos n) → n < 2 ^ 64
below_top n w = omega (arith, ints, w.1)

pub above_bottom : (n : ℕ) → IsWhole (negsuc n) → n < 2 ^ 63
above_bottom n w = omega (arith, ints, w.0)

pub IsNumber-whole : (z : ℤ) → IsWhole z → IsNumber (number_text (of_integer z))
IsNumber-whole (pos n) w = IsNumber-decimal n (below_top n w)
IsNumber-whole (negsuc n) w = IsNumber-signed_decimal (negsuc n) (above_bottom n w)

pub number_of-whole : (z : ℤ) → IsWhole z → number_of (number_text (of_integer z)) ≡ Some (of_integer z)
number_of-whole (pos n) w = number_of-decimal n (below_top n w)
number_of-whole (negsuc n) w = number_of-negative n (above_bottom n w)

-- ---- the numbers that digits are parsed as

abbrev value_or : {T E : Type 0} → T → Result T E → T
value_or x (Ok y) = y
value_or x (Err e) = x

pub same_Ok : {T E : Type 0} (x y : T) → ◌≡◌ {A = Result T E} (Ok x) (Ok y) → x ≡ y
same_Ok x y same = ap (value_or x) same

abbrev IsOk : {T E : Type 0} → Result T E → Type 0
IsOk (Ok w) = Unit {0}
IsOk (Err e) = ⊥

pub not_both : {T E : Type 0} {x : T} {e : E} → ◌≡◌ {A = Result T E} (Ok x) (Err e) → ⊥
not_both both = subst IsOk both tt

-- what holds where a value was parsed
parsed : {T E : Type 0} (P : Type 0) (v : T) (r : Result T E) (w : T) → OkIff r P v → r ≡ Ok w → P
parsed P v (Ok x) w h ok = h.0
parsed P v (Err e) w h ok = absurd (not_both (sym ok))

below_zero : {E : Type 0} (n w : ℕ) (digits : List ℕ) (r : Result ℕ E) → digits ≡ signed_decimal (negsuc n) → ParsesUnsigned 64 10 digits r → r ≡ Ok w → ⊥
below_zero n w digits r is parses ok =
    let numeral = subst (λ s. IsNumeral 10 (without_leading_plus s)) is (parsed _ _ r w parses ok).0 in
    absurd (omega (arith, numeral.1.0))

-- digits that are parsed as a `u64` are those of that number
pub unsigned_parsed : {E : Type 0} (digits : List ℕ) (r : Result ℕ E) (w : ℕ) → IsWholeText digits → ParsesUnsigned 64 10 digits r → r ≡ Ok w → digits ≡ signed_decimal (pos w)
unsigned_parsed digits r w (pos n, whole, is) parses ok = let same = parse-decimal 64 n digits r (below_top n whole) (below_top n whole) is parses in is ∙ ap signed_decimal (ap pos (same_Ok n w (sym same ∙ ok)))
unsigned_parsed digits r w (negsuc n, whole, is) parses ok = absurd (below_zero n w digits r is parses ok)

-- other digits are parsed as an `i64`
pub signed_parsed : {E F : Type 0} (digits : List ℕ) (r : Result ℕ E) (e : E) (q : Result ℤ F) → IsWholeText digits → ParsesUnsigned 64 10 digits r → r ≡ Err e → ParsesSigned w64 10 digits q
    → (z : ℤ) × (q ≡ Ok z) × (digits ≡ signed_decimal z) × FitsSigned w64 z
signed_parsed digits r e q (pos n, whole, is) parses err signed = absurd (not_both (sym (parse-decimal 64 n digits r (below_top n whole) (below_top n whole) is parses) ∙ err))
signed_parsed digits r e q (negsuc n, whole, is) parses err signed =
    let fits : FitsSigned w64 (negsuc n) = record { sfits = above_bottom n whole } in
    (negsuc n, parse-signed_decimal w64 (negsuc n) digits q fits (above_bottom n whole) is signed, is, fits)
