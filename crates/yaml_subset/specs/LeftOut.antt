-- What is left out of YAML: values that begin as a form that isn't taken, and numbers that are refused.
use Rattle.std.specs.Prelude.{ℕ, Bool, true, false, ◌&&◌, ◌||◌, ◌==◌, if◌then◌else◌, List, [], ◌∷◌, drop, Option, Some, None}
use Rattle.yaml_subset.specs.Signs.{is_apart, trimmed}
use Rattle.yaml_subset.specs.Scalar.{meaning}
use Rattle.yaml_subset.specs.Says.{key_of}
use Rattle.yaml_subset.specs.declared.scalar.Means.{Means}
use Rattle.yaml_subset.specs.declared.scalar.Means.TheVariants.{Null, Truth, Whole, Refused, Words}

abbrev pub is_left_out_sign : ℕ → Bool
is_left_out_sign b = b == 38 || (b == 42 || (b == 33 || (b == 62 || (b == 63 || (b == 37 || (b == 64 || b == 96))))))

-- `|+`
abbrev pub is_keeping : ℕ → List ℕ → Bool
is_keeping b [] = false
is_keeping b (c ∷ text) = b == 124 && c == 43

-- a number that is refused
abbrev pub is_refused_meaning : Means → Bool
is_refused_meaning Null = false
is_refused_meaning (Truth b) = false
is_refused_meaning (Whole z) = false
is_refused_meaning Refused = true
is_refused_meaning Words = false

-- a value that begins as a form that is left out, or is a refused number
abbrev pub is_left_out : List ℕ → Bool
is_left_out [] = false
is_left_out (b ∷ text) = if b == 32 then is_left_out text else (is_left_out_sign b || (is_keeping b text || is_refused_meaning (meaning (trimmed (b ∷ text)))))

-- the value behind a key, or the whole
abbrev pub behind_key : Option (List ℕ × ℕ) → List ℕ → List ℕ
behind_key None text = text
behind_key (Some p) text = drop p.1 text

-- the value of a line, after its indent, dashes and a key
abbrev pub value_of : List ℕ → List ℕ
value_of [] = []
value_of (b ∷ text) = if b == 32 then value_of text else (if b == 45 && is_apart text then value_of text else behind_key (key_of (b ∷ text)) (b ∷ text))
