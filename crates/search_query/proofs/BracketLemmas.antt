-- What std's calls on text say in the words of `Pairs`.
use Rattle.std.proofs.Common.{◌≡◌, ℕ, ◌-◌, true, false, List, length, Option, Some, None, MatchOption, sym, subst, refl, arith, codes, option_copied}
use Rattle.std.specs.Borrow.{Bor}
use Rattle.std.specs.Str.{IsCharBoundary}
use Rattle.std.specs.Str.Pattern.{FindsTextPrefix, FindsTextSuffix, StripsPrefix, StripsSuffix}
use Rattle.std.proofs.lemmas.Str.Pattern.{starts_text, ends_text}
use Rattle.search_query.specs.Pairs.{behind_front, before_bracket}

-- `strip_prefix` at a text
pub behind_front-strip : (n s : List ℕ) (r : Option (Bor (List ℕ)))
    → MatchOption r (FindsTextPrefix n s None) (λ x. StripsPrefix (FindsTextPrefix n) s x.now) → option_copied r ≡ behind_front n s
behind_front-strip n s None none = rw (sym (starts_text false n s none)) refl
behind_front-strip n s (Some x) (k, finds, is, fits) =
    let B : ℕ → Type 0 = λ j. IsCharBoundary s j in
    let starts = starts_text true n s (k, finds, subst B (sym finds.0) finds.2) in
    rw (sym starts, is, finds.0) refl

-- `strip_suffix` at `]`
pub before_bracket-strip : (s : List ℕ) (r : Option (Bor (List ℕ)))
    → MatchOption r (FindsTextSuffix (codes "]") s None) (λ x. StripsSuffix (FindsTextSuffix (codes "]")) s x.now) → option_copied r ≡ before_bracket s
before_bracket-strip s None none = rw (sym (ends_text false (codes "]") s none)) refl
before_bracket-strip s (Some x) (k, finds, is, fits) =
    let B : ℕ → Type 0 = λ j. IsCharBoundary s (length s - j) in
    let ends = ends_text true (codes "]") s (k, finds, omega arith, subst B (sym finds.0) finds.2) in
    rw (sym ends, is, finds.0) refl
