-- Signs against a text from left to right, up to the first `*`.
use Rattle.std.specs.Prelude.{◌≡◌, ℕ, List, [], ◌∷◌, ◌++◌, Option, Some, None}
use Rattle.query_text.specs.declared.term.Sign.{Sign}
use Rattle.query_text.specs.declared.term.Sign.TheVariants.{Any, One, Byte}
use Rattle.search_query.specs.Matching.{Fits, one_off}
use Rattle.search_query.specs.declared.walk.Stop.{Stop}
use Rattle.search_query.specs.declared.walk.Stop.TheVariants as stop

-- where signs stop to fit
pub data Stopped : Type 0 where
  at_any : List Sign → List ℕ → Stopped
  fit : Stopped
  misfit : Stopped

-- as the code says it
abbrev pub stop_of : Stop → Stopped
stop_of (stop.AtAny signs text) = at_any signs.now text.now
stop_of stop.Fit = fit
stop_of stop.Misfit = misfit

abbrev pub onto : (List ℕ → Stopped) → Option (List ℕ) → Stopped
onto more None = misfit
onto more (Some text) = more text

-- to the first `*`, or as far as the signs fit
abbrev pub walk : List Sign → List ℕ → Stopped
walk [] [] = fit
walk [] (b ∷ text) = misfit
walk (Any ∷ signs) text = at_any signs text
walk (One ∷ signs) text = onto (walk signs) (one_off One text)
walk (Byte c ∷ signs) text = onto (walk signs) (one_off (Byte c) text)

-- some rest of the text is what the signs stand for
abbrev pub FitsBehind : List Sign → List ℕ → Type 0
FitsBehind signs text = (front back : List ℕ) × (text ≡ front ++ back) × Fits signs back

-- what stands behind the first byte, if there is one
abbrev pub tail : List ℕ → Option (List ℕ)
tail [] = None
tail (b ∷ text) = Some text
