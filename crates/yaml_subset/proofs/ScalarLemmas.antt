-- Numbers of digits.
use Rattle.std.proofs.Common.{◌≡◌, ◌==◌, ◌+◌, ◌*◌, ◌≤◌, ◌≢◌, ℕ, false, List, [], ◌∷◌, get_or, refl, arith}
use Rattle.std.proofs.lemmas.Bool.Decides.{nat_tests}
use Rattle.yaml_subset.specs.Scalar.{decimal_meaning, is_minus, unsigned, whole_meaning}
use Rattle.std.specs.Char.{digit_value}
use Rattle.std.specs.Str.Parse.{digits_value_after}

times_more : (n radix : ℕ) → 1 ≤ radix → n ≤ n * radix
times_more n radix h = grind arith

-- digits never make less of the number before them
pub after_ge : (radix n : ℕ) (ds : List ℕ) → 1 ≤ radix → n ≤ digits_value_after radix n ds
after_ge radix n [] h = omega arith
after_ge radix n (c ∷ cs) h = omega (arith, times_more n radix h, after_ge radix (n * radix + digit_value c) cs h)

pub not_zero : (text : List ℕ) → get_or text 0 0 ≢ 48 → whole_meaning text ≡ decimal_meaning (is_minus text) (unsigned text)
not_zero [] apart = refl
not_zero (a ∷ []) apart = refl
not_zero (a ∷ b ∷ text) apart = let no : (a == 48) ≡ false = grind (arith, nat_tests) in rw no refl
