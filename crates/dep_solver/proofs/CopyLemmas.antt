-- Loops that copy a list, element by element.
use Rattle.std.proofs.Common.{◌≡◌, ℕ, ◌+◌, ◌<◌, List, [], ◌∷◌, ◌++◌, length, take, get_or, ap, sym, ◌∙◌}
use Rattle.std.proofs.lemmas.List.{take_more}

-- after one more, the copies are those of one element more
pub copies_more : {A : Type 0} (seen xs copies after : List A) (i : ℕ) (x y : A) → seen ≡ xs → i < length seen → x ≡ get_or seen i x → y ≡ x
    → copies ≡ take i xs → after ≡ copies ++ y ∷ [] → after ≡ take (i + 1) xs
copies_more seen xs copies after i x y same within is copied so_far pushed =
    pushed ∙ ap (λ zs. zs ++ y ∷ []) (so_far ∙ sym (ap (take i) same)) ∙ ap (λ z. take i seen ++ z ∷ []) (copied ∙ is) ∙ sym (take_more seen i x within) ∙ ap (take (i + 1)) same
