-- What is cut out of a text at its ASCII bytes is a text.
use Rattle.std.proofs.Common.{◌==◌, ◌<◌, ◌≤◌, ℕ, zero, suc, List, [], ◌∷◌, ◌++◌, drop, IsUtf8, inl, inr, ap, sym, subst, arith}
use Rattle.std.proofs.lemmas.Bool.{cases_Bool, cond-true, cond-false, eqb-true}
use Rattle.std.proofs.lemmas.Str.{IsUtf8-past_char, encode_ascii}
use Rattle.yaml_subset.specs.Signs.{indent}

-- behind an ASCII byte
pub behind_ascii : (b : ℕ) (text : List ℕ) → b < 128 → IsUtf8 (b ∷ text) → IsUtf8 text
behind_ascii b text low u = IsUtf8-past_char (b ∷ text) text b u (ap (λ (l : List ℕ). l ++ text) (sym (encode_ascii b low)))

-- behind spaces that it begins with
pub behind_indent : (n : ℕ) (line : List ℕ) → n ≤ indent line → IsUtf8 line → IsUtf8 (drop n line)
behind_indent zero line deep u = u
behind_indent (suc n) [] deep u = absurd (omega arith)
behind_indent (suc n) (b ∷ text) deep u = elim (cases_Bool (b == 32)) [
  | inl space ↦
      let within : suc n ≤ suc (indent text) = subst (λ (k : ℕ). suc n ≤ k) (cond-true (b == 32) (suc (indent text)) 0 space) deep in
      behind_indent n text (omega arith) (behind_ascii b text (omega (arith, eqb-true b 32 space)) u)
  | inr other ↦ let none : suc n ≤ 0 = subst (λ (k : ℕ). suc n ≤ k) (cond-false (b == 32) (suc (indent text)) 0 other) deep in absurd (omega arith)
]
