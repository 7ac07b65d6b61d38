-- Proper prefixes of a path by where they end.
use Rattle.std.proofs.Common.{◌≡◌, ◌≢◌, ℕ, zero, suc, ◌<◌, Bool, true, false, ◌==◌, List, [], ◌∷◌, bytes_eq, length, take, get_or, refl, sym, ap, ◌∙◌, arith}
use Rattle.std.proofs.lemmas.Bool.{and_parts, and_from, eqb-true, eq-eqb, true≢false}
use Rattle.std.specs.Cmp.Lexicographic.{bytes_decides}
use Rattle.host_tree.specs.Paths.{goes_on, is_above}

-- what is above a path is its front up to a slash
pub goes_on-take : (p path : List ℕ) → goes_on p path ≡ true → take (length p) path ≡ p
goes_on-take [] path is = refl
goes_on-take (b ∷ p) [] is = absurd (true≢false (sym is))
goes_on-take (b ∷ p) (c ∷ path) is =
    let parts = and_parts (b == c) (goes_on p path) is in
    let first : c ≡ b = sym (eqb-true b c parts.0) in
    ap (λ (x : ℕ). x ∷ take (length p) path) first ∙ ap (λ (xs : List ℕ). b ∷ xs) (goes_on-take p path parts.1)

pub goes_on-slash : (p path : List ℕ) → goes_on p path ≡ true → get_or path (length p) 0 ≡ 47
goes_on-slash [] [] is = absurd (true≢false (sym is))
goes_on-slash [] (c ∷ path) is = eqb-true c 47 is
goes_on-slash (b ∷ p) [] is = absurd (true≢false (sym is))
goes_on-slash (b ∷ p) (c ∷ path) is = goes_on-slash p path (and_parts (b == c) (goes_on p path) is).1

pub goes_on-shorter : (p path : List ℕ) → goes_on p path ≡ true → length p < length path
goes_on-shorter [] [] is = absurd (true≢false (sym is))
goes_on-shorter [] (c ∷ path) is = omega arith
goes_on-shorter (b ∷ p) [] is = absurd (true≢false (sym is))
goes_on-shorter (b ∷ p) (c ∷ path) is = let rest = goes_on-shorter p path (and_parts (b == c) (goes_on p path) is).1 in omega (arith, rest)

-- the front of a path up to a slash goes on to it
pub take-goes_on : (path : List ℕ) (end : ℕ) → end < length path → get_or path end 0 ≡ 47 → goes_on (take end path) path ≡ true
take-goes_on [] end within is = absurd (omega arith)
take-goes_on (c ∷ path) zero within is = ap (λ (x : ℕ). x == 47) is
take-goes_on (c ∷ path) (suc end) within is = and_from (c == c) _ (eq-eqb c c refl) (take-goes_on path end (omega arith) is)

-- two fronts of one path are one, or the shorter goes on to the longer
pub goes_on-compared : (p q path : List ℕ) → goes_on p path ≡ true → goes_on q path ≡ true → length p < length q → goes_on p q ≡ true
goes_on-compared p [] path ps qs shorter = absurd (omega arith)
goes_on-compared [] (c ∷ q) [] ps qs shorter = absurd (true≢false (sym ps))
goes_on-compared [] (c ∷ q) (d ∷ path) ps qs shorter =
    let parts = and_parts (c == d) (goes_on q path) qs in
    ap (λ (x : ℕ). x == 47) (eqb-true c d parts.0) ∙ ps
goes_on-compared (b ∷ p) (c ∷ q) [] ps qs shorter = absurd (true≢false (sym ps))
goes_on-compared (b ∷ p) (c ∷ q) (d ∷ path) ps qs shorter =
    let one = and_parts (b == d) (goes_on p path) ps in
    let two = and_parts (c == d) (goes_on q path) qs in
    and_from (b == c) _ (ap (λ (x : ℕ). b == x) (eqb-true c d two.0) ∙ one.0) (goes_on-compared p q path one.1 two.1 (omega arith))

-- ---- the same of prefixes that aren't empty

pub above-take : (p path : List ℕ) → is_above p path ≡ true → take (length p) path ≡ p
above-take [] path is = absurd (true≢false (sym is))
above-take (b ∷ p) path is = goes_on-take (b ∷ p) path is

pub above-slash : (p path : List ℕ) → is_above p path ≡ true → get_or path (length p) 0 ≡ 47
above-slash [] path is = absurd (true≢false (sym is))
above-slash (b ∷ p) path is = goes_on-slash (b ∷ p) path is

pub above-shorter : (p path : List ℕ) → is_above p path ≡ true → length p < length path
above-shorter [] path is = absurd (true≢false (sym is))
above-shorter (b ∷ p) path is = goes_on-shorter (b ∷ p) path is

pub take-above : (path : List ℕ) (end : ℕ) → 0 < end → end < length path → get_or path end 0 ≡ 47 → is_above (take end path) path ≡ true
take-above path zero first within is = absurd (omega arith)
take-above [] (suc end) first within is = absurd (omega arith)
take-above (c ∷ path) (suc end) first within is = take-goes_on (c ∷ path) (suc end) within is

pub above-compared : (p q path : List ℕ) → is_above p path ≡ true → is_above q path ≡ true → length p < length q → is_above p q ≡ true
above-compared [] q path ps qs shorter = absurd (true≢false (sym ps))
above-compared (b ∷ p) [] path ps qs shorter = absurd (true≢false (sym qs))
above-compared (b ∷ p) (c ∷ q) path ps qs shorter = goes_on-compared (b ∷ p) (c ∷ q) path ps qs shorter

pub above-same : (p q path : List ℕ) → is_above p path ≡ true → is_above q path ≡ true → length p ≡ length q → p ≡ q
above-same p q path ps qs alike = sym (above-take p path ps) ∙ ap (λ (n : ℕ). take n path) alike ∙ above-take q path qs

-- texts that differ aren't the same by their bytes
pub bytes_apart : (a b : List ℕ) → a ≢ b → bytes_eq a b ≡ false
bytes_apart a b apart = by (bytes_eq a b) refl
  where
    by : (r : Bool) → bytes_eq a b ≡ r → bytes_eq a b ≡ false
    by true is = absurd (apart ((bytes_decides a b).0 is))
    by false is = is
