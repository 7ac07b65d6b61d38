-- Prefixes of normal paths, and what it means that one path is above another.
use Rattle.std.proofs.Common.{◌≡◌, ℕ, zero, suc, ◌<◌, Bool, true, false, cond, ◌==◌, nat_le, IsTrue, List, [], ◌∷◌, ◌++◌, length, take, drop, slice_get, Some, refl, sym, ap, ◌∙◌, arith}
use Rattle.std.specs.List.{list_all, slice_split, onto_first}
use Rattle.std.proofs.lemmas.Bool.{and_parts, and_from, and_right, eqb-true, leb-true, le-leb, true≢false}
use Rattle.std.proofs.lemmas.List.{length-take}
use Rattle.std.proofs.lemmas.List.Folds.{list_all-append}
use Rattle.std.proofs.lemmas.List.Splits.{length-slice_split}
use Rattle.host_tree.specs.Paths.{is_segment, is_rooted, is_normal, EndsPrefix, goes_on, is_above}

-- ---- a prefix of a normal path is normal

abbrev is_slash : ℕ → Bool
is_slash c = c == 47

onto_first-append : (x : ℕ) (ps qs : List (List ℕ)) → 0 < length ps → onto_first x (ps ++ qs) ≡ onto_first x ps ++ qs
onto_first-append x [] qs some = absurd (omega arith)
onto_first-append x (p ∷ ps) qs some = refl

-- what is cut at a slash is cut before it and behind it
split_on : (b : Bool) (x : ℕ) (whole front behind : List (List ℕ)) → 0 < length front → whole ≡ front ++ behind
    → cond b ([] ∷ whole) (onto_first x whole) ≡ cond b ([] ∷ front) (onto_first x front) ++ behind
split_on true x whole front behind some is = ap (λ (ps : List (List ℕ)). [] ∷ ps) is
split_on false x whole front behind some is = ap (onto_first x) is ∙ onto_first-append x front behind some

split-at_slash : (front behind : List ℕ) → slice_split is_slash (front ++ 47 ∷ behind) ≡ slice_split is_slash front ++ slice_split is_slash behind
split-at_slash [] behind = refl
split-at_slash (x ∷ front) behind =
    let some : 0 < length (slice_split is_slash front) = let count = length-slice_split is_slash front in omega (arith, count) in
    split_on (is_slash x) x _ _ _ some (split-at_slash front behind)

-- a text is what is before one of its bytes, that byte, and what is behind it
parts_at : (xs : List ℕ) (i : ℕ) (x : ℕ) → slice_get xs i ≡ Some x → take i xs ++ x ∷ drop (suc i) xs ≡ xs
parts_at [] i x is = cc
parts_at (y ∷ xs) zero x is = cc
parts_at (y ∷ xs) (suc i) x is = ap (λ (zs : List ℕ). y ∷ zs) (parts_at xs i x is)

segments_before : (behind : List ℕ) (i : ℕ) → slice_get behind i ≡ Some 47 → list_all is_segment (slice_split is_slash behind) ≡ true
    → list_all is_segment (slice_split is_slash (take i behind)) ≡ true
segments_before behind i slash all =
    let front : List (List ℕ) = slice_split is_slash (take i behind) in
    let rest : List (List ℕ) = slice_split is_slash (drop (suc i) behind) in
    let whole : slice_split is_slash behind ≡ front ++ rest
    = ap (slice_split is_slash) (sym (parts_at behind i 47 slash)) ∙ split-at_slash (take i behind) (drop (suc i) behind) in
    (and_parts (list_all is_segment front) (list_all is_segment rest) (sym (list_all-append is_segment front rest) ∙ ap (list_all is_segment) (sym whole) ∙ all)).0

-- a proper prefix of a normal path is normal
pub normal-prefix : (path : List ℕ) (end : ℕ) → IsTrue (is_normal path) → EndsPrefix path end → IsTrue (is_normal (take end path))
normal-prefix [] end normal ends = cc
normal-prefix (b ∷ behind) zero normal ends = absurd (omega (arith, ends.0))
normal-prefix (b ∷ behind) (suc i) normal ends =
    let parts = and_parts (nat_le (length (b ∷ behind)) 4096) (is_rooted (b ∷ behind)) normal in
    let rooted = and_parts (b == 47) (list_all is_segment (slice_split is_slash behind)) parts.1 in
    let short = leb-true (length (b ∷ behind)) 4096 parts.0 in
    and_from _ _ (le-leb (length (b ∷ take i behind)) 4096 (let count = length-take i behind in omega (arith, count, short))) (and_from _ _ rooted.0 (segments_before behind i ends.1 rooted.1))

-- ---- above

pub goes_on-trans : (a b c : List ℕ) → goes_on a b ≡ true → goes_on b c ≡ true → goes_on a c ≡ true
goes_on-trans [] [] c ab bc = absurd (true≢false (sym ab))
goes_on-trans [] (x ∷ b) [] ab bc = absurd (true≢false (sym bc))
goes_on-trans [] (x ∷ b) (y ∷ c) ab bc = ap (λ (n : ℕ). n == 47) (sym (eqb-true x y (and_parts (x == y) (goes_on b c) bc).0)) ∙ ab
goes_on-trans (x ∷ a) [] c ab bc = absurd (true≢false (sym ab))
goes_on-trans (x ∷ a) (y ∷ b) [] ab bc = absurd (true≢false (sym bc))
goes_on-trans (x ∷ a) (y ∷ b) (z ∷ c) ab bc =
    let one = and_parts (x == y) (goes_on a b) ab in
    let two = and_parts (y == z) (goes_on b c) bc in
    and_from (x == z) (goes_on a c) (ap (λ (n : ℕ). n == z) (eqb-true x y one.0) ∙ two.0) (goes_on-trans a b c one.1 two.1)

pub above-trans : (a b c : List ℕ) → is_above a b ≡ true → is_above b c ≡ true → is_above a c ≡ true
above-trans [] b c ab bc = absurd (true≢false (sym ab))
above-trans (x ∷ a) [] c ab bc = absurd (true≢false (sym ab))
above-trans (x ∷ a) (y ∷ b) c ab bc = goes_on-trans (x ∷ a) (y ∷ b) c ab bc

-- a path goes on from what isn't empty: then that is above it
pub above-goes_on : (path other : List ℕ) → 0 < length path → is_above path other ≡ goes_on path other
above-goes_on [] other some = absurd (omega arith)
above-goes_on (b ∷ path) other some = refl

pub above-some : (path other : List ℕ) → is_above path other ≡ true → 0 < length path
above-some [] other is = absurd (true≢false (sym is))
above-some (b ∷ path) other is = omega arith

-- no path is above itself
pub goes_on-itself : (path : List ℕ) → goes_on path path ≡ false
goes_on-itself [] = refl
goes_on-itself (b ∷ path) = and_right (b == b) (goes_on path path) (goes_on-itself path)

pub above-itself : (path : List ℕ) → is_above path path ≡ false
above-itself [] = refl
above-itself (b ∷ path) = goes_on-itself (b ∷ path)

-- a normal path isn't empty
pub normal-some : (path : List ℕ) → IsTrue (is_normal path) → 0 < length path
normal-some [] normal = absurd (true≢false (sym normal))
normal-some (b ∷ path) normal = omega arith
