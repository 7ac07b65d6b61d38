-- What a read leaves of the input.
use Rattle.std.proofs.Common.{◌≡◌, ℕ, ◌+◌, ◌≤◌, List, ◌++◌, length, take, drop, sym, ap, ◌∙◌, take-append-drop}
use Rattle.std.proofs.lemmas.List.{length-take-le, drop-drop}
use Rattle.std.proofs.Math.Seq.{take-append_seam}

-- the bytes that were read, and then what is left, are what was left
pub read_taken : (input into rest : List ℕ) (at count : ℕ) → count ≤ length (drop at input)
    → into ≡ take count (drop at input) ++ rest → drop at input ≡ take count into ++ drop (at + count) input
read_taken input into rest at count le e =
    let left = drop at input in
    let front : take count into ≡ take count left =
    ap (take count) e ∙ ap (λ n. take n (take count left ++ rest)) (sym (length-take-le count left le)) ∙ take-append_seam (take count left) rest in
    sym (take-append-drop count left)
    ∙ ap (λ xs. xs ++ drop count left) (sym front)
    ∙ ap (λ xs. take count into ++ xs) (drop-drop count at input)
