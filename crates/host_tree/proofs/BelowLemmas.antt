-- In the order of bytes what is below a path lies between the path with a slash behind it and the path with the next byte, `0`, behind it.
use Rattle.std.proofs.Common.{◌≡◌, ◌⊎◌, inl, inr, ℕ, ◌<◌, ◌-◌, length, take, length-append, Bool, true, false, cond, not, ◌&&◌, ◌==◌, List, [], ◌∷◌, ◌++◌, Ordering, Less, Equal, Greater, nat_cmp, refl, sym, ap, ◌∙◌, arith}
use Rattle.std.proofs.lemmas.Bool.{and_parts, and_from, eqb-true, cases_order, lt-ltb, le-ltb, eq-eqb, ne_eqb}
use Rattle.std.proofs.Math.Seq.{take-append_seam}
use Rattle.std.specs.BTreeMap.Range.{range_contains, IsInRange}
use Rattle.std.specs.Cmp.Lexicographic.{slice_cmp}
use Rattle.std.specs.Ordering.{is_le, is_gt, ordering_then, ordering_reverse}
use Rattle.std.specs.declared.ops.Bound.TheVariants.{Included, Excluded}
use Rattle.std.proofs.lemmas.Cmp.{nat_list_cmp_total}
use Rattle.host_tree.specs.Below.{front_of, AreEnds}
use Rattle.host_tree.specs.Paths.{goes_on}

nat_cmp-less : (a b : ℕ) → a < b → nat_cmp a b ≡ Less
nat_cmp-less a b less = ap (λ (t : Bool). cond t Less (cond (a == b) Equal Greater)) (lt-ltb a b less)

nat_cmp-greater : (a b : ℕ) → b < a → nat_cmp a b ≡ Greater
nat_cmp-greater a b more = ap (λ (t : Bool). cond t Less (cond (a == b) Equal Greater)) (le-ltb a b (omega (arith, more))) ∙ ap (λ (t : Bool). cond t Equal Greater) (ne_eqb a b (λ same. omega (arith, more, same)))

nat_cmp-equal : (a b : ℕ) → a ≡ b → nat_cmp a b ≡ Equal
nat_cmp-equal a b same = ap (λ (t : Bool). cond t Less (cond (a == b) Equal Greater)) (le-ltb a b (omega (arith, same))) ∙ ap (λ (t : Bool). cond t Equal Greater) (eq-eqb a b same)

-- a text that begins with one byte, from that byte on
one_from : (cs : List ℕ) → is_le (slice_cmp nat_cmp [] cs) ≡ true
one_from [] = refl
one_from (c ∷ cs) = refl

from_byte : (b c : ℕ) (cs : List ℕ) → (b < c) ⊎ (b ≡ c) → is_le (slice_cmp nat_cmp (b ∷ []) (c ∷ cs)) ≡ true
from_byte b c cs (inl less) = ap (λ (o : Ordering). is_le (ordering_then o (slice_cmp nat_cmp [] cs))) (nat_cmp-less b c less)
from_byte b c cs (inr same) = ap (λ (o : Ordering). is_le (ordering_then o (slice_cmp nat_cmp [] cs))) (nat_cmp-equal b c same) ∙ one_from cs

before_byte : (b c : ℕ) (cs : List ℕ) → c < b → is_le (slice_cmp nat_cmp (b ∷ []) (c ∷ cs)) ≡ false
before_byte b c cs more = ap (λ (o : Ordering). is_le (ordering_then o (slice_cmp nat_cmp [] cs))) (nat_cmp-greater b c more)

abbrev is_between : List ℕ → List ℕ → List ℕ → Bool
is_between from to q = is_le (slice_cmp nat_cmp from q) && not (is_le (slice_cmp nat_cmp to q))

two : (a b c d : Bool) → a ≡ c → b ≡ d → (a && not b) ≡ (c && not d)
two a b c d one other = cc

at_slash : (c : ℕ) (cs : List ℕ) → (c ≡ 47) ⊎ ((c < 47) ⊎ (47 < c)) → is_between (47 ∷ []) (48 ∷ []) (c ∷ cs) ≡ (c == 47)
at_slash c cs (inl same) = two _ _ true false (from_byte 47 c cs (inr (sym same))) (before_byte 48 c cs (omega (arith, same))) ∙ sym (eq-eqb c 47 same)
at_slash c cs (inr (inl less)) = two _ _ false false (before_byte 47 c cs less) (before_byte 48 c cs (omega (arith, less))) ∙ sym (ne_eqb c 47 (λ same. omega (arith, less, same)))
at_slash c cs (inr (inr more)) = two _ _ true true (from_byte 47 c cs (inl more)) (above more (cases_order 48 c)) ∙ sym (ne_eqb c 47 (λ same. omega (arith, more, same)))
  where
    above : 47 < c → (48 ≡ c) ⊎ ((48 < c) ⊎ (c < 48)) → is_le (slice_cmp nat_cmp (48 ∷ []) (c ∷ cs)) ≡ true
    above more (inl same) = from_byte 48 c cs (inr same)
    above more (inr (inl less)) = from_byte 48 c cs (inl less)
    above more (inr (inr other)) = absurd (omega (arith, more, other))

at_byte : (b c : ℕ) (from to q : List ℕ) (rest : Bool) → (b ≡ c) ⊎ ((b < c) ⊎ (c < b)) → is_between from to q ≡ rest → is_between (b ∷ from) (b ∷ to) (c ∷ q) ≡ (b == c && rest)
at_byte b c from to q rest (inl same) is =
    ap (λ (o : Ordering). is_le (ordering_then o (slice_cmp nat_cmp from q)) && not (is_le (ordering_then o (slice_cmp nat_cmp to q)))) (nat_cmp-equal b c same) ∙ is ∙ ap (λ (t : Bool). t && rest) (sym (eq-eqb b c same))
at_byte b c from to q rest (inr (inl less)) is =
    ap (λ (o : Ordering). is_le (ordering_then o (slice_cmp nat_cmp from q)) && not (is_le (ordering_then o (slice_cmp nat_cmp to q)))) (nat_cmp-less b c less) ∙ ap (λ (t : Bool). t && rest) (sym (ne_eqb b c (λ same. omega (arith, less, same))))
at_byte b c from to q rest (inr (inr more)) is =
    ap (λ (o : Ordering). is_le (ordering_then o (slice_cmp nat_cmp from q)) && not (is_le (ordering_then o (slice_cmp nat_cmp to q)))) (nat_cmp-greater b c more) ∙ ap (λ (t : Bool). t && rest) (sym (ne_eqb b c (λ same. omega (arith, more, same))))

pub between-goes_on : (path q : List ℕ) → range_contains (slice_cmp nat_cmp) (Included (path ++ 47 ∷ [])) (Excluded (path ++ 48 ∷ [])) q ≡ goes_on path q
between-goes_on [] [] = refl
between-goes_on [] (c ∷ cs) = at_slash c cs (cases_order c 47)
between-goes_on (b ∷ path) [] = refl
between-goes_on (b ∷ path) (c ∷ q) = at_byte b c (path ++ 47 ∷ []) (path ++ 48 ∷ []) q (goes_on path q) (cases_order b c) (between-goes_on path q)

-- the two ends stand in their order
pub ends-forward : (path : List ℕ) → is_gt (slice_cmp nat_cmp (path ++ 47 ∷ []) (path ++ 48 ∷ [])) ≡ false
ends-forward [] = refl
ends-forward (b ∷ path) = ap (λ (o : Ordering). is_gt (ordering_then o (slice_cmp nat_cmp (path ++ 47 ∷ []) (path ++ 48 ∷ [])))) (nat_cmp-equal b b refl) ∙ ends-forward path

-- a path stands before what is below it
pub goes_on-less : (path q : List ℕ) → goes_on path q ≡ true → slice_cmp nat_cmp path q ≡ Less
goes_on-less [] [] is = cc
goes_on-less [] (c ∷ cs) is = refl
goes_on-less (b ∷ path) [] is = cc
goes_on-less (b ∷ path) (c ∷ q) is =
    let parts = and_parts (b == c) (goes_on path q) is in
    ap (λ (o : Ordering). ordering_then o (slice_cmp nat_cmp path q)) (nat_cmp-equal b c (eqb-true b c parts.0)) ∙ goes_on-less path q parts.1

-- ---- the same as a range

le_gt : (o : Ordering) → is_le o ≡ true → is_gt o ≡ false
le_gt Less is = refl
le_gt Equal is = refl
le_gt Greater is = cc

gt_le : (o : Ordering) → is_gt o ≡ false → is_le o ≡ true
gt_le Less is = refl
gt_le Equal is = refl
gt_le Greater is = cc

turned_less : (o : Ordering) → not (is_le o) ≡ true → ordering_reverse o ≡ Less
turned_less Less is = cc
turned_less Equal is = cc
turned_less Greater is = refl

less_turned : (o : Ordering) → ordering_reverse o ≡ Less → not (is_le o) ≡ true
less_turned Less is = cc
less_turned Equal is = cc
less_turned Greater is = refl

pub in_range : (path q : List ℕ) → goes_on path q ≡ true → IsInRange (slice_cmp nat_cmp) (Included (path ++ 47 ∷ [])) (Excluded (path ++ 48 ∷ [])) q
in_range path q is =
    let parts = and_parts (is_le (slice_cmp nat_cmp (path ++ 47 ∷ []) q)) (not (is_le (slice_cmp nat_cmp (path ++ 48 ∷ []) q))) (between-goes_on path q ∙ is) in
    (le_gt _ parts.0, nat_list_cmp_total.antisymm q (path ++ 48 ∷ []) ∙ turned_less _ parts.1)

pub from_range : (path q : List ℕ) → IsInRange (slice_cmp nat_cmp) (Included (path ++ 47 ∷ [])) (Excluded (path ++ 48 ∷ [])) q → goes_on path q ≡ true
from_range path q is =
    sym (between-goes_on path q)
    ∙ and_from (is_le (slice_cmp nat_cmp (path ++ 47 ∷ []) q)) (not (is_le (slice_cmp nat_cmp (path ++ 48 ∷ []) q))) (gt_le _ is.0) (less_turned _ (sym (nat_list_cmp_total.antisymm q (path ++ 48 ∷ [])) ∙ is.1))

-- ---- the ends of what is below a path

pub front_of-end : (path : List ℕ) (end : ℕ) → front_of (path ++ end ∷ []) ≡ path
front_of-end path end =
    let count : length (path ++ end ∷ []) - 1 ≡ length path = let sum = length-append path (end ∷ []) in omega (arith, sum) in
    ap (λ (n : ℕ). take n (path ++ end ∷ [])) count ∙ take-append_seam path (end ∷ [])

pub ends-of : (from to : List ℕ) → AreEnds (front_of from) from to → is_gt (slice_cmp nat_cmp from to) ≡ false
ends-of from to ends = rw (ends.0, ends.1) (ends-forward (front_of from))
