-- What can be told of a link in memory by what a call leaves: the laws of links.
use Rattle.std.specs.Prelude.{◌≡◌, ℕ, List, [], ◌∷◌, ◌++◌, length, take, drop, Option, Some, None}
use Rattle.std.proofs.Common.{sym, ap, ◌∙◌, take-append-drop}
use Rattle.std.proofs.Math.Seq.{take-append_seam, drop-append_seam}
use Rattle.outside_link.specs.Input.{IsRest}
use Rattle.outside_link.specs.MemoryLink.{LinkedBytes, left_of, kept_by_reads, kept_by_writes}

-- what is told, or nothing
abbrev pub told : Option (List ℕ) → List ℕ
told None = []
told (Some text) = text

-- the first of some numbers, or 0
abbrev pub first_of : List ℕ → ℕ
first_of [] = 0
first_of (n ∷ ns) = n

-- those behind the first
abbrev pub rest_of : List ℕ → List ℕ
rest_of [] = []
rest_of (n ∷ ns) = ns

-- two texts as one tell the first, where its length is known
pub first_told : (a b x y : List ℕ) → length a ≡ length b → a ++ x ≡ b ++ y → a ≡ b
first_told a b x y e p =
    sym (take-append_seam a x) ∙ ap (take (length a)) p ∙ ap (λ n. take n (b ++ y)) e ∙ take-append_seam b y

-- and the second
pub second_told : (a b x y : List ℕ) → length a ≡ length b → a ++ x ≡ b ++ y → x ≡ y
second_told a b x y e p =
    sym (drop-append_seam a x) ∙ ap (drop (length a)) p ∙ ap (λ n. drop n (b ++ y)) e ∙ drop-append_seam b y

-- reads leave what was written
pub gained_kept : (old new : LinkedBytes) → Some (kept_by_reads new) ≡ Some (kept_by_reads old)
    → Some new.sent.gained ≡ Some old.sent.gained
gained_kept old new e =
    let whole : kept_by_reads new ≡ kept_by_reads old = ap told e in
    ap Some (first_told new.sent.gained old.sent.gained new.input old.input (ap first_of whole) (ap rest_of whole))

-- reads leave the input
pub input_kept : (old new : LinkedBytes) → Some (kept_by_reads new) ≡ Some (kept_by_reads old)
    → Some new.input ≡ Some old.input
input_kept old new e =
    let whole : kept_by_reads new ≡ kept_by_reads old = ap told e in
    ap Some (second_told new.sent.gained old.sent.gained new.input old.input (ap first_of whole) (ap rest_of whole))

-- writes leave what is left to read
pub left_kept : (old new : LinkedBytes) → Some (kept_by_writes new) ≡ Some (kept_by_writes old)
    → Some (left_of new) ≡ Some (left_of old)
left_kept old new e =
    let whole : kept_by_writes new ≡ kept_by_writes old = ap told e in
    ap (λ xs. Some (drop (first_of xs) (rest_of xs))) whole

-- writes leave the input
pub input_unwritten : (old new : LinkedBytes) → Some (kept_by_writes new) ≡ Some (kept_by_writes old)
    → Some new.input ≡ Some old.input
input_unwritten old new e =
    let whole : kept_by_writes new ≡ kept_by_writes old = ap told e in
    ap (λ xs. Some (rest_of xs)) whole

-- what is left is the rest of the input
pub left_is_rest : (link : LinkedBytes) → IsRest (Some link.input) (Some (left_of link))
left_is_rest link = (take link.taken link.input, ap Some (sym (take-append-drop link.taken link.input)))
