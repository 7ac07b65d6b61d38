-- What notes gained by writing a line in pieces.
use Rattle.std.proofs.Common.{◌≡◌, ℕ, List, Option, Result, Ok, Err, OnOk, OnErr, ◌++◌, codes, inl, inr, refl, sym, ap, ◌∙◌, append_assoc}
use Rattle.std.specs.Io.KnownBytes.{append_known}
use Rattle.outside_core.specs.Failed.{HasCause}
use Rattle.outside_core.specs.Sink.{GainsPart}
use Rattle.chefsite.specs.Notes.{GainsOrRose}

-- the whole line, or a front of it where a write failed
pub gains_or_rose : {T E : Type 0} (r : Result T E) (bytes : List ℕ) (held now : Option (List ℕ)) (before after : ℕ)
    → OnOk r (now ≡ append_known held bytes) → OnErr r (GainsPart held now bytes) → HasCause before after r → GainsOrRose bytes held now before after
gains_or_rose (Ok x) bytes held now before after ok failed cause = inl ok
gains_or_rose (Err e) bytes held now before after ok failed cause = inr (failed, cause.failed refl)

-- three pieces behind what was there
pub pushed_three : (held a b c x y z : List ℕ) → x ≡ held ++ a → y ≡ x ++ b → z ≡ y ++ c → z ≡ held ++ (a ++ b ++ c)
pushed_three held a b c x y z first second third =
    third
    ∙ ap (λ s. s ++ c) (second ∙ ap (λ s. s ++ b) first ∙ append_assoc held a b)
    ∙ append_assoc held (a ++ b) c

-- the front of a line with a method and a space, then the target and the end of the line
pub request_line : (front verb target f g first second : List ℕ)
    → f ≡ front ++ verb → g ≡ f ++ codes " " → first ≡ g → second ≡ target
    → first ++ second ++ codes "\n" ≡ front ++ (verb ++ codes " " ++ target) ++ codes "\n"
request_line front verb target f g first second with_verb with_space is_front is_target =
    ap (λ s. s ++ codes "\n")
    (ap (λ s. s ++ second) (is_front ∙ with_space ∙ ap (λ s. s ++ codes " ") with_verb ∙ append_assoc front verb (codes " "))
    ∙ ap (λ s. front ++ (verb ++ codes " ") ++ s) is_target
    ∙ append_assoc front (verb ++ codes " ") target)
