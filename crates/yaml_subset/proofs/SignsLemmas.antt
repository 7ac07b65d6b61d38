-- Texts up to their blank ends, places in a text, and cuts of UTF-8.
use Rattle.std.proofs.Common.{◌≡◌, ◌==◌, ◌+◌, ℕ, zero, suc, Bool, true, false, nat_lt, List, [], ◌∷◌, ◌++◌, take, length, Option, Some, None, if◌then◌else◌, refl, sym, ap, subst, ◌∙◌, arith, length-append}
use Rattle.std.proofs.lemmas.Bool.{eqb-true}
use Rattle.std.proofs.lemmas.Bool.Decides.{nat_tests}
use Rattle.yaml_subset.specs.Signs.{ended, is_flow_sign, is_passed, is_tail, later, spaces, trimmed}
use Rattle.yaml_subset.specs.Tokens.{before_sign}

pub later_more : (i : ℕ) (o : Option ℕ) → later i (later 1 o) ≡ later (i + 1) o
later_more i None = refl
later_more i (Some n) = ap Some (omega arith)

-- ---- spaces

pub passed_spaces : (g : ℕ) (text : List ℕ) → is_passed (spaces g ++ text) ≡ is_passed text
passed_spaces zero text = refl
passed_spaces (suc g) text = passed_spaces g text

spaces_more : (g : ℕ) (text : List ℕ) → spaces g ++ 32 ∷ text ≡ spaces (suc g) ++ text
spaces_more zero text = refl
spaces_more (suc g) text = ap (λ t. 32 ∷ t) (spaces_more g text)

pub length-spaces : (g : ℕ) → length (spaces g) ≡ g
length-spaces zero = refl
length-spaces (suc g) = ap suc (length-spaces g)

trimmed_away : (g : ℕ) (text : List ℕ) → is_passed text ≡ true → trimmed (spaces (suc g) ++ text) ≡ []
trimmed_away g text passed = let tail = passed_spaces g text ∙ passed in rw tail refl

trimmed_gap : (g b : ℕ) (text : List ℕ) → (b == 32) ≡ false → (b == 35) ≡ false → trimmed (spaces g ++ b ∷ text) ≡ spaces g ++ b ∷ trimmed text
trimmed_gap zero b text space sign = rw space refl
trimmed_gap (suc g) b text space sign =
    let here : is_passed (b ∷ text) ≡ false = rw (space, sign) refl in
    let tail = passed_spaces g (b ∷ text) ∙ here in
    rw tail (ap (λ t. 32 ∷ t) (trimmed_gap g b text space sign))

length-gap : (g b : ℕ) (text : List ℕ) → length (spaces g ++ b ∷ text) ≡ g + suc (length text)
length-gap g b text = length-append (spaces g) (b ∷ text) ∙ ap (λ n. n + suc (length text)) (length-spaces g)

-- ---- where a text ends before its blank end

ended_at : (sign space : Bool) (g e i b : ℕ) (text : List ℕ) → ((g e i : ℕ) → i ≡ e + g → ended e i text ≡ e + length (trimmed (spaces g ++ text)))
    → i ≡ e + g → (b == 35) ≡ sign → (b == 32) ≡ space → ended e i (b ∷ text) ≡ e + length (trimmed (spaces g ++ b ∷ text))
ended_at true space zero e i b text rest is at_sign at_space =
    let less : nat_lt e i ≡ false = grind (arith, nat_tests) in
    let apart : (b == 32) ≡ false = grind (arith, nat_tests) in
    let more = rest zero (suc i) (suc i) (omega arith) in
    rw (at_sign, less, apart) (omega (arith, more))
ended_at true space (suc g) e i b text rest is at_sign at_space =
    let less : nat_lt e i ≡ true = grind (arith, nat_tests) in
    let apart : (b == 32) ≡ false = grind (arith, nat_tests) in
    let passed : is_passed (b ∷ text) ≡ true = rw (apart, at_sign) refl in
    rw (at_sign, less) (omega (arith, ap length (trimmed_away g (b ∷ text) passed)))
ended_at false true g e i b text rest is at_sign at_space =
    let same : b ≡ 32 = eqb-true b 32 at_space in
    let more = rest (suc g) e (suc i) (omega arith) in
    subst (λ (k : ℕ). ended e i (k ∷ text) ≡ e + length (trimmed (spaces g ++ k ∷ text))) (sym same)
    (more ∙ ap (λ (t : List ℕ). e + length (trimmed t)) (sym (spaces_more g text)))
ended_at false false g e i b text rest is at_sign at_space =
    let more = rest zero (suc i) (suc i) (omega arith) in
    let long = ap length (trimmed_gap g b text at_space at_sign) ∙ length-gap g b (trimmed text) in
    rw (at_sign, at_space) (omega (arith, more, long))

ended_is : (g e i : ℕ) (text : List ℕ) → i ≡ e + g → ended e i text ≡ e + length (trimmed (spaces g ++ text))
ended_is zero e i [] is = omega arith
ended_is (suc g) e i [] is = omega (arith, ap length (trimmed_away g [] refl))
ended_is g e i (b ∷ text) is = ended_at (b == 35) (b == 32) g e i b text (λ g e i. ended_is g e i text) is refl refl

take_if : (t : Bool) (b : ℕ) (text : List ℕ) → take (length (trimmed text)) text ≡ trimmed text → take (length (if t then [] else b ∷ trimmed text)) (b ∷ text) ≡ (if t then [] else b ∷ trimmed text)
take_if true b text rest = refl
take_if false b text rest = ap (λ t. b ∷ t) rest

take_trimmed : (text : List ℕ) → take (length (trimmed text)) text ≡ trimmed text
take_trimmed [] = refl
take_trimmed (b ∷ text) = take_if (is_tail (b ∷ text)) b text (take_trimmed text)

-- the text up to the place that one pass finds is the trimmed one
pub take_ended : (end : ℕ) (text : List ℕ) → end ≡ ended 0 0 text → take end text ≡ trimmed text
take_ended end text is =
    let long : end ≡ length (trimmed text) = omega (arith, ended_is zero 0 0 text refl) in ap (λ (n : ℕ). take n text) long ∙ take_trimmed text

take_before_if : (t : Bool) (b : ℕ) (text : List ℕ) → take (length (before_sign text)) text ≡ before_sign text → take (length (if t then [] else b ∷ before_sign text)) (b ∷ text) ≡ (if t then [] else b ∷ before_sign text)
take_before_if true b text rest = refl
take_before_if false b text rest = ap (λ t. b ∷ t) rest

-- the text up to the first sign of a flow is the front of that length
pub take_before : (text : List ℕ) → take (length (before_sign text)) text ≡ before_sign text
take_before [] = refl
take_before (b ∷ text) = take_before_if (is_flow_sign b) b text (take_before text)
