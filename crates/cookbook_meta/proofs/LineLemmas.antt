-- The text of lines with one more.
use Rattle.std.proofs.Common.{◌≡◌, ◌<◌, ◌+◌, ℕ, List, [], ◌∷◌, ◌++◌, length, take, get_or, append_assoc, refl, sym, ap, ◌∙◌}
use Rattle.std.proofs.lemmas.List.{take_more}
use Rattle.cookbook_meta.specs.Identifiers.{text_of_lines}

text_of_lines-last : (lines : List (List ℕ)) (line : List ℕ) → text_of_lines (lines ++ line ∷ []) ≡ (text_of_lines lines ++ line) ++ 10 ∷ []
text_of_lines-last [] line = refl
text_of_lines-last (first ∷ lines) line =
    ap (λ rest. first ++ 10 ∷ rest) (text_of_lines-last lines line ∙ append_assoc (text_of_lines lines) line (10 ∷ []))
    ∙ sym (append_assoc (first ++ 10 ∷ text_of_lines lines) line (10 ∷ []) ∙ append_assoc first (10 ∷ text_of_lines lines) (line ++ 10 ∷ []))

-- after one more line, the text is that so far with the line and a line feed
pub text_of_lines-more : (lines : List (List ℕ)) (i : ℕ) (line sent : List ℕ) → i < length lines → line ≡ get_or lines i line → sent ≡ line → (text_of_lines (take i lines) ++ sent) ++ 10 ∷ [] ≡ text_of_lines (take (i + 1) lines)
text_of_lines-more lines i line sent within is same =
    ap (λ b. (text_of_lines (take i lines) ++ b) ++ 10 ∷ []) (same ∙ is)
    ∙ sym (ap text_of_lines (take_more lines i line within) ∙ text_of_lines-last (take i lines) (get_or lines i line))
