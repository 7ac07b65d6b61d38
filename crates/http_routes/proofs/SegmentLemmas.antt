-- How the segments of pieces come one by one.
use Rattle.std.proofs.Common.{◌≡◌, ℕ, ◌+◌, ◌<◌, ◌≤◌, Bool, true, false, List, [], ◌∷◌, ◌++◌, Option, Some, None, length, get_or, drop, refl, sym, ap, ◌∙◌, append_assoc, nat_lt, ◌==◌, IsUtf8, IsOk, IfOk, Result, Ok, Err, is_ok, subst, is_some, arith, rules}
use Rattle.std.specs.Result.{result_ok}
use Rattle.std.specs.Option.{option_and_then, option_map}
use Rattle.std.specs.List.{list_any}
use Rattle.std.specs.Str.{is_utf8}
use Rattle.std.proofs.lemmas.List.{at_drop_more, at_drop_all, append-nil}
use Rattle.std.proofs.lemmas.Str.{is_utf8-from_IsUtf8, IsUtf8-from_is_utf8}
use Rattle.std.proofs.lemmas.Bool.{false≢true}
use Rattle.std.proofs.lemmas.Bool.Decides.{nat_tests}
use Rattle.http_routes.specs.Targets.{segment_in, segments_in, segment_from}

-- what the segments made so far and those of the pieces that are left make
abbrev pub made_with : List (List ℕ) → List (List ℕ) → Option (List (List ℕ))
made_with made pieces = option_map (λ rest. made ++ rest) (segments_in pieces)

joined : (made : List (List ℕ)) (s : List ℕ) (r : Option (List (List ℕ))) → option_map (λ rest. (made ++ s ∷ []) ++ rest) r ≡ option_map (λ rest. made ++ rest) (option_map (λ ss. s ∷ ss) r)
joined made s None = refl
joined made s (Some ss) = ap Some (append_assoc made (s ∷ []) ss)

-- a piece that spells a segment
pub made_with-segment : (made : List (List ℕ)) (piece s : List ℕ) (pieces : List (List ℕ)) → segment_in piece ≡ Some s → made_with (made ++ s ∷ []) pieces ≡ made_with made (piece ∷ pieces)
made_with-segment made piece s pieces e =
    joined made s (segments_in pieces)
    ∙ ap (λ o. option_map (λ rest. made ++ rest) (option_and_then (λ t. option_map (λ ss. t ∷ ss) (segments_in pieces)) o)) (sym e)

-- a piece that spells none
made_with-none : (made : List (List ℕ)) (piece : List ℕ) (pieces : List (List ℕ)) → segment_in piece ≡ None → made_with made (piece ∷ pieces) ≡ None
made_with-none made piece pieces e =
    ap (λ o. option_map (λ rest. made ++ rest) (option_and_then (λ t. option_map (λ ss. t ∷ ss) (segments_in pieces)) o)) e

-- the next piece spells a segment
pub one_more : (all : List (List ℕ)) (n : ℕ) (piece s : List ℕ) (made : List (List ℕ)) → (n < length all) × (piece ≡ get_or all n piece) → segment_in piece ≡ Some s → made_with made (drop n all) ≡ segments_in all → made_with (made ++ s ∷ []) (drop (n + 1) all) ≡ segments_in all
one_more all n piece s made at e before =
    made_with-segment made piece s (drop (n + 1) all) e
    ∙ ap (λ p. made_with made (p ∷ drop (n + 1) all)) at.1
    ∙ sym (at_drop_more (made_with made) all n piece at.0)
    ∙ before

-- the next piece spells none
pub no_more : (all : List (List ℕ)) (n : ℕ) (piece : List ℕ) (made : List (List ℕ)) → (n < length all) × (piece ≡ get_or all n piece) → segment_in piece ≡ None → made_with made (drop n all) ≡ segments_in all → None ≡ segments_in all
no_more all n piece made at e before =
    sym (made_with-none made piece (drop (n + 1) all) e)
    ∙ ap (λ p. made_with made (p ∷ drop (n + 1) all)) at.1
    ∙ sym (at_drop_more (made_with made) all n piece at.0)
    ∙ before

-- no piece is left
pub all_made : (all : List (List ℕ)) (n : ℕ) (made : List (List ℕ)) → length all ≤ n → made_with made (drop n all) ≡ segments_in all → Some made ≡ segments_in all
all_made all n made end before =
    ap Some (sym (append-nil made)) ∙ sym (at_drop_all (made_with made) all n end) ∙ before

-- bytes that aren't text are no segment
pub no_text : (bytes : List ℕ) → (IsUtf8 bytes → ⊥) → None ≡ segment_from bytes
no_text bytes h = by_test (is_utf8 bytes) refl where
  by_test : (t : Bool) → is_utf8 bytes ≡ t → None ≡ segment_from bytes
  by_test true e = absurd (h (IsUtf8-from_is_utf8 bytes e))
  by_test false e = rw e (search rules)

-- text that isn't empty and has no slash is a segment
pub a_segment : (bytes : List ℕ) → IsUtf8 bytes → (length bytes == 0) ≡ false → list_any (λ b. b == 47) bytes ≡ false → Some bytes ≡ segment_from bytes
a_segment bytes h filled slashless =
    let some : nat_lt 0 (length bytes) ≡ true = grind (arith, nat_tests) in
    rw (some, slashless, is_utf8-from_IsUtf8 bytes h)

-- no result is both an Ok and without one
pub failed : {X E : Type 0} (r : Result X E) (o : Option X) → is_some o ≡ is_ok r → o ≡ None → IsOk r → ⊥
failed r o same none ok = false≢true (sym (ap is_some none) ∙ same ∙ ok)

-- what holds of the value of an Ok holds of the value that came out of it
pub out_of : {X E : Type 0} (P : X → Type 0) (r : Result X E) (o : Option X) (x : X) → IfOk r P → o ≡ result_ok r → o ≡ Some x → P x
out_of P (Ok y) o x h is was = let same : y ≡ x = cc in subst P same h
out_of P (Err e) o x h is was = let apart : ⊥ = cc in absurd apart
