-- Quoted texts: what was taken so far, and the characters of escapes.
use Rattle.std.proofs.Common.{◌≡◌, ◌+◌, ◌≤◌, ◌&&◌, ℕ, Bool, true, false, List, [], ◌∷◌, ◌++◌, length, get_or, Option, Some, None, if◌then◌else◌, refl, ap, ap₂, sym, ◌∙◌, arith, append_assoc, append-nil}
use Rattle.yaml_subset.specs.Quoted.{goes_on, hex_value, is_hex, is_surrogate, quoted, standing, taken, unicode}
use Rattle.yaml_subset.specs.declared.quoted.Stands.{Stands}
use Rattle.yaml_subset.specs.declared.quoted.Stands.TheVariants.{Closing, Unicode, Wrong}

pub taken_more : (bs cs : List ℕ) (i : ℕ) (o : Option (List ℕ × ℕ)) → taken bs i (taken cs 1 o) ≡ taken (bs ++ cs) (i + 1) o
taken_more bs cs i None = refl
taken_more bs cs i (Some p) =
    let n : i + (1 + p.1) ≡ (i + 1) + p.1 = omega arith in ap₂ (λ (t : List ℕ) (n : ℕ). Some (t, n)) (sym (append_assoc bs cs p.0)) n

unicode_at : (h : Bool) (value code : ℕ) (found : Stands) → Some code ≡ (if h then Some value else None) → found ≡ (if is_surrogate code then Wrong else Unicode code)
    → found ≡ (if h then (if is_surrogate value then Wrong else Unicode value) else Wrong)
unicode_at true value code found is at = let same : code ≡ value = cc in at ∙ ap (λ (n : ℕ). if is_surrogate n then Wrong else Unicode n) same
unicode_at false value code found is at = cc

pub unicode_some : (text : List ℕ) (code : ℕ) (found : Stands) → 4 ≤ length text
    → Some code ≡ (if is_hex (get_or text 0 0) && (is_hex (get_or text 1 0) && (is_hex (get_or text 2 0) && is_hex (get_or text 3 0))) then Some (hex_value (get_or text 0 0) (get_or text 1 0) (get_or text 2 0) (get_or text 3 0)) else None)
    → found ≡ (if is_surrogate code then Wrong else Unicode code) → found ≡ unicode text
unicode_some [] code found long is at = absurd (omega arith)
unicode_some (a ∷ []) code found long is at = absurd (omega arith)
unicode_some (a ∷ b ∷ []) code found long is at = absurd (omega arith)
unicode_some (a ∷ b ∷ c ∷ []) code found long is at = absurd (omega arith)
unicode_some (a ∷ b ∷ c ∷ d ∷ text) code found long is at = unicode_at _ (hex_value a b c d) code found is at

-- ---- one byte more

pub quoted_more : (whole : Option (List ℕ × ℕ)) (mark b i skip k j : ℕ) (bs cs t rest after : List ℕ) (s : Stands) → whole ≡ taken bs i (quoted mark skip rest) → skip ≡ 0 → rest ≡ b ∷ after → s ≡ standing mark b after
    → ((r : ℕ → Option (List ℕ × ℕ)) → goes_on s r ≡ taken t 1 (r k)) → cs ≡ bs ++ t → j ≡ k → whole ≡ taken cs (i + 1) (quoted mark j after)
quoted_more whole mark b i skip k j bs cs t rest after s so_far none is at goes more same =
    so_far ∙ ap₂ (λ (n : ℕ) (x : List ℕ). taken bs i (quoted mark n x)) none is ∙ ap (λ (s : Stands). taken bs i (goes_on s (λ n. quoted mark n after))) (sym at)
    ∙ ap (λ (o : Option (List ℕ × ℕ)). taken bs i o) (goes (λ n. quoted mark n after)) ∙ taken_more bs t i (quoted mark k after)
    ∙ ap₂ (λ (x : List ℕ) (n : ℕ). taken x (i + 1) (quoted mark n after)) (sym more) (sym same)

pub quoted_ends : (whole : Option (List ℕ × ℕ)) (mark b i skip : ℕ) (bs rest after : List ℕ) → whole ≡ taken bs i (quoted mark skip rest) → skip ≡ 0 → rest ≡ b ∷ after → Closing ≡ standing mark b after → whole ≡ Some (bs, i + 1)
quoted_ends whole mark b i skip bs rest after so_far none is at =
    so_far ∙ ap₂ (λ (n : ℕ) (x : List ℕ). taken bs i (quoted mark n x)) none is ∙ ap (λ (s : Stands). taken bs i (goes_on s (λ n. quoted mark n after))) (sym at)
    ∙ ap (λ (t : List ℕ). Some (t, i + 1)) (append-nil bs)
