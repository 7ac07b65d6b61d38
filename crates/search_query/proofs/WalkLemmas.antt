-- Where signs stop to fit, and what that says of the whole.
use Rattle.std.proofs.Common.{◌≡◌, ◌==◌, ◌++◌, ◌<◌, ◌≤◌, ◌↔◌, ℕ, false, List, [], ◌∷◌, Option, Some, None, length, refl, ap, sym, subst, inl, inr, ◌∙◌, append_assoc, arith}
use Rattle.std.proofs.lemmas.Bool.{cases_Bool, eqb-true}
use Rattle.query_text.specs.declared.term.Sign.{Sign}
use Rattle.query_text.specs.declared.term.Sign.TheVariants.{Any, One, Byte}
use Rattle.search_query.specs.Matching.{Fits, one_off, without_rest, is_rest}
use Rattle.search_query.specs.Walk.{Stopped, at_any, fit, misfit, onto, walk, FitsBehind, tail}

-- what is left behind a step is the end of the text
rest_cut : (text : List ℕ) → (front : List ℕ) × (text ≡ front ++ without_rest text)
rest_cut [] = ([], refl)
rest_cut (b ∷ text) = elim (cases_Bool (is_rest b)) [
  | inl is ↦ let (front, same) = rest_cut text in (b ∷ front, let now : without_rest (b ∷ text) ≡ without_rest text = rw is refl in ap (λ r. b ∷ r) same ∙ ap (λ r. b ∷ (front ++ r)) (sym now))
  | inr is ↦ ([], let now : without_rest (b ∷ text) ≡ b ∷ text = rw is refl in sym now)
]

-- a character's first byte isn't passed over
rest_keeps : (front : List ℕ) (y : ℕ) (back : List ℕ) → is_rest y ≡ false → (f : List ℕ) × (without_rest (front ++ y ∷ back) ≡ f ++ y ∷ back)
rest_keeps [] y back is = ([], rw is refl)
rest_keeps (b ∷ front) y back is = elim (cases_Bool (is_rest b)) [
  | inl rest ↦ let (f, same) = rest_keeps front y back is in (f, let now : without_rest (b ∷ (front ++ y ∷ back)) ≡ without_rest (front ++ y ∷ back) = rw rest refl in now ∙ same)
  | inr first ↦ (b ∷ front, rw first refl)
]

-- a step at a character, and at a byte
one_parts : (b : ℕ) (text back : List ℕ) → one_off One (b ∷ text) ≡ Some back → (is_rest b ≡ false) × (without_rest text ≡ back)
one_parts b text back is = elim (cases_Bool (is_rest b)) [
  | inl rest ↦ let none : one_off One (b ∷ text) ≡ None = rw rest refl in cc
  | inr first ↦ let some : one_off One (b ∷ text) ≡ Some (without_rest text) = rw first refl in (first, cc)
]

byte_parts : (c b : ℕ) (text back : List ℕ) → one_off (Byte c) (b ∷ text) ≡ Some back → (b ≡ c) × (text ≡ back)
byte_parts c b text back is = elim (cases_Bool (b == c)) [
  | inl same ↦ let some : one_off (Byte c) (b ∷ text) ≡ Some text = rw same refl in (eqb-true b c same, cc)
  | inr other ↦ let none : one_off (Byte c) (b ∷ text) ≡ None = rw other refl in cc
]

-- the same sign taken off a text and off an end of it leaves a text and an end of it
one_behind : (front text back : List ℕ) (x y : List ℕ) → text ≡ front ++ back → one_off One text ≡ Some x → one_off One back ≡ Some y → (f : List ℕ) × (x ≡ f ++ y)
one_behind [] text back x y same is here = ([], cc)
one_behind (b ∷ front) text [] x y same is here = cc
one_behind (b ∷ front) text (c ∷ back) x y same is here =
    let whole : one_off One (b ∷ (front ++ c ∷ back)) ≡ Some x = ap (λ t. one_off One t) (sym same) ∙ is in
    let (first, left) = one_parts b (front ++ c ∷ back) x whole in
    let (other, rest) = one_parts c back y here in
    let (f, keeps) = rest_keeps front c back other in
    let (g, cut) = rest_cut back in
    (f ++ c ∷ g, sym left ∙ keeps ∙ ap (λ r. f ++ c ∷ r) (cut ∙ ap (λ r. g ++ r) rest) ∙ sym (append_assoc f (c ∷ g) y))

byte_behind : (k : ℕ) (front text back : List ℕ) (x y : List ℕ) → text ≡ front ++ back → one_off (Byte k) text ≡ Some x → one_off (Byte k) back ≡ Some y → (f : List ℕ) × (x ≡ f ++ y)
byte_behind k [] text back x y same is here = ([], cc)
byte_behind k (b ∷ front) text [] x y same is here = cc
byte_behind k (b ∷ front) text (c ∷ back) x y same is here =
    let whole : one_off (Byte k) (b ∷ (front ++ c ∷ back)) ≡ Some x = ap (λ t. one_off (Byte k) t) (sym same) ∙ is in
    let (first, left) = byte_parts k b (front ++ c ∷ back) x whole in
    let (other, rest) = byte_parts k c back y here in
    (front ++ c ∷ [], sym left ∙ ap (λ r. front ++ c ∷ r) rest ∙ sym (append_assoc front (c ∷ []) y))

-- a step that was taken, where the walk went on
fit_on : {R : Type 0} (more : List ℕ → Stopped) (o : Option (List ℕ)) → onto more o ≡ fit → ((x : List ℕ) → o ≡ Some x → more x ≡ fit → R) → R
fit_on more None is go = cc
fit_on more (Some x) is go = go x refl is

any_on : {R : Type 0} (more : List ℕ → Stopped) (signs2 : List Sign) (text2 : List ℕ) (o : Option (List ℕ)) → onto more o ≡ at_any signs2 text2 → ((x : List ℕ) → o ≡ Some x → more x ≡ at_any signs2 text2 → R) → R
any_on more signs2 text2 None is go = cc
any_on more signs2 text2 (Some x) is go = go x refl is

-- the first place at which signs fit up to a `*` is as good as any later one
pub greedy : (signs : List Sign) (text front back : List ℕ) (signs2 : List Sign) (text2 : List ℕ) → text ≡ front ++ back → walk signs text ≡ at_any signs2 text2 → Fits signs back → FitsBehind signs2 text2
greedy [] [] front back signs2 text2 same is fits = cc
greedy [] (b ∷ text) front back signs2 text2 same is fits = cc
greedy (Any ∷ signs) text front back signs2 text2 same is (f, rest, parts, fits) =
    let which : signs ≡ signs2 = cc in
    let where_is : text ≡ text2 = cc in
    (front ++ f, rest, sym where_is ∙ same ∙ ap (λ r. front ++ r) parts ∙ sym (append_assoc front f rest), subst (λ (s : List Sign). Fits s rest) which fits)
greedy (One ∷ signs) text front back signs2 text2 same is (rest, here, fits) =
    any_on (walk signs) signs2 text2 (one_off One text) is (λ x off on.
    let (f, behind) = one_behind front text back x rest same off here in greedy signs x f rest signs2 text2 behind on fits)
greedy (Byte k ∷ signs) text front back signs2 text2 same is (rest, here, fits) =
    any_on (walk signs) signs2 text2 (one_off (Byte k) text) is (λ x off on.
    let (f, behind) = byte_behind k front text back x rest same off here in greedy signs x f rest signs2 text2 behind on fits)

-- signs that fit end, and no others do
pub walk_fit : (signs : List Sign) (text : List ℕ) → walk signs text ≡ fit → Fits signs text
walk_fit [] [] is = refl
walk_fit [] (b ∷ text) is = cc
walk_fit (Any ∷ signs) text is = cc
walk_fit (One ∷ signs) text is = fit_on (walk signs) (one_off One text) is (λ x off on. (x, off, walk_fit signs x on))
walk_fit (Byte k ∷ signs) text is = fit_on (walk signs) (one_off (Byte k) text) is (λ x off on. (x, off, walk_fit signs x on))

pub walk_misfit : (signs : List Sign) (text : List ℕ) → walk signs text ≡ misfit → Fits signs text → ⊥
walk_misfit [] [] is fits = cc
walk_misfit [] (b ∷ text) is fits = cc
walk_misfit (Any ∷ signs) text is fits = cc
walk_misfit (One ∷ signs) text is (rest, off, fits) = walk_misfit signs rest (ap (onto (walk signs)) (sym off) ∙ is) fits
walk_misfit (Byte k ∷ signs) text is (rest, off, fits) = walk_misfit signs rest (ap (onto (walk signs)) (sym off) ∙ is) fits

-- at a `*`, what fits behind it makes the whole fit
pub walk_any : (signs : List Sign) (text : List ℕ) (signs2 : List Sign) (text2 : List ℕ) → walk signs text ≡ at_any signs2 text2 → FitsBehind signs2 text2 → Fits signs text
walk_any [] [] signs2 text2 is fits = cc
walk_any [] (b ∷ text) signs2 text2 is fits = cc
walk_any (Any ∷ signs) text signs2 text2 is (front, back, parts, fits) =
    let which : signs ≡ signs2 = cc in
    let where_is : text ≡ text2 = cc in
    (front, back, where_is ∙ parts, subst (λ (s : List Sign). Fits s back) (sym which) fits)
walk_any (One ∷ signs) text signs2 text2 is fits = any_on (walk signs) signs2 text2 (one_off One text) is (λ x off on. (x, off, walk_any signs x signs2 text2 on fits))
walk_any (Byte k ∷ signs) text signs2 text2 is fits = any_on (walk signs) signs2 text2 (one_off (Byte k) text) is (λ x off on. (x, off, walk_any signs x signs2 text2 on fits))

-- less is left behind a `*`
without_shorter : (text : List ℕ) → length (without_rest text) ≤ length text
without_shorter [] = omega arith
without_shorter (b ∷ text) = elim (cases_Bool (is_rest b)) [
  | inl rest ↦ let now : without_rest (b ∷ text) ≡ without_rest text = rw rest refl in let less = without_shorter text in let same = ap length now in omega (arith, same, less)
  | inr first ↦ let now : without_rest (b ∷ text) ≡ b ∷ text = rw first refl in let same = ap length now in omega (arith, same)
]

one_shorter : (text back : List ℕ) → one_off One text ≡ Some back → length back ≤ length text
one_shorter [] back is = cc
one_shorter (b ∷ text) back is = let (first, left) = one_parts b text back is in let less = without_shorter text in let same = ap length left in omega (arith, same, less)

byte_shorter : (k : ℕ) (text back : List ℕ) → one_off (Byte k) text ≡ Some back → length back ≤ length text
byte_shorter k [] back is = cc
byte_shorter k (b ∷ text) back is = let (first, left) = byte_parts k b text back is in let same = ap length left in omega (arith, same)

pub walk_shorter : (signs : List Sign) (text : List ℕ) (signs2 : List Sign) (text2 : List ℕ) → walk signs text ≡ at_any signs2 text2 → (length signs2 < length signs) × (length text2 ≤ length text)
walk_shorter [] [] signs2 text2 is = cc
walk_shorter [] (b ∷ text) signs2 text2 is = cc
walk_shorter (Any ∷ signs) text signs2 text2 is =
    let which : signs ≡ signs2 = cc in
    let where_is : text ≡ text2 = cc in
    let one = ap length which in
    let other = ap length where_is in
    (omega (arith, one), omega (arith, other))
walk_shorter (One ∷ signs) text signs2 text2 is = any_on (walk signs) signs2 text2 (one_off One text) is (λ x off on.
    let (less, short) = walk_shorter signs x signs2 text2 on in let here = one_shorter text x off in (omega arith, omega arith))
walk_shorter (Byte k ∷ signs) text signs2 text2 is = any_on (walk signs) signs2 text2 (one_off (Byte k) text) is (λ x off on.
    let (less, short) = walk_shorter signs x signs2 text2 on in let here = byte_shorter k text x off in (omega arith, omega arith))

-- the parts of a search from left to right
pub at_star : (signs : List Sign) (text : List ℕ) (signs2 : List Sign) (text2 : List ℕ) → walk signs text ≡ at_any signs2 text2 → FitsBehind signs text ↔ FitsBehind signs2 text2
at_star signs text signs2 text2 is = (
  (λ (front, back, parts, fits). greedy signs text front back signs2 text2 parts is fits),
  (λ behind. ([], text, refl, walk_any signs text signs2 text2 is behind)),
)

pub at_none : (signs : List Sign) → walk signs [] ≡ misfit → FitsBehind signs [] → ⊥
at_none signs is ([], back, parts, fits) = walk_misfit signs [] is (subst (λ (t : List ℕ). Fits signs t) (sym parts) fits)
at_none signs is (b ∷ front, back, parts, fits) = cc

at_byte_on : (signs : List Sign) (b : ℕ) (text : List ℕ) → walk signs (b ∷ text) ≡ misfit → FitsBehind signs (b ∷ text) → FitsBehind signs text
at_byte_on signs b text is ([], back, parts, fits) = absurd (walk_misfit signs (b ∷ text) is (subst (λ (t : List ℕ). Fits signs t) (sym parts) fits))
at_byte_on signs b text is (c ∷ front, back, parts, fits) = (front, back, let same : text ≡ front ++ back = cc in same, fits)

pub at_byte : (signs : List Sign) (b : ℕ) (text : List ℕ) → walk signs (b ∷ text) ≡ misfit → FitsBehind signs (b ∷ text) ↔ FitsBehind signs text
at_byte signs b text is = (at_byte_on signs b text is, λ (front, back, parts, fits). (b ∷ front, back, ap (λ r. b ∷ r) parts, fits))

pub at_rest : (signs : List Sign) (text rest : List ℕ) → walk signs text ≡ misfit → tail text ≡ Some rest → (FitsBehind signs rest ↔ FitsBehind signs text) × (length rest < length text)
at_rest signs [] rest is more = cc
at_rest signs (b ∷ text) rest is more =
    let same : text ≡ rest = cc in
    let shift = at_byte signs b text is in
    let sizes = ap length same in
    (subst (λ (t : List ℕ). FitsBehind signs t ↔ FitsBehind signs (b ∷ text)) same (shift.1, shift.0), omega (arith, sizes))

pub at_end : (signs : List Sign) (text : List ℕ) → walk signs text ≡ misfit → tail text ≡ None → FitsBehind signs text → ⊥
at_end signs [] is more fits = at_none signs is fits
at_end signs (b ∷ text) is more fits = cc
