-- What private calls over borrowed texts give, in plain words.
use Rattle.std.specs.Prelude.{◌≡◌, ℕ, Bool, true, false, List, ◌++◌, Option, Some, None}
use Rattle.std.specs.Borrow.{Bor}

-- two borrowed texts
abbrev pub cut_of : Bor (List ℕ) × Bor (List ℕ) → List ℕ × List ℕ
cut_of parts = (parts.0.now, parts.1.now)

-- the keys that were read, with what stands behind them
abbrev pub rest_of : List (List ℕ) → Option (Bor (List ℕ)) → Option (List (List ℕ) × List ℕ)
rest_of keys None = None
rest_of keys (Some rest) = Some (keys, rest.now)

-- the text was put behind what was there, if there is one
abbrev pub Pushes : Option (List ℕ) → List ℕ → List ℕ → Bool → Type 0
Pushes None old new pushed = pushed ≡ false
Pushes (Some text) old new pushed = (pushed ≡ true) × (new ≡ old ++ text)
