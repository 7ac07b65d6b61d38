-- What a write does to the bytes that a sink has gained.
use Rattle.std.specs.Prelude.{◌≡◌, ℕ, List, ◌++◌}
use Rattle.std.specs.declared.option.Option.{Option}
use Rattle.std.specs.Io.KnownBytes.{append_known}

-- the sink gained a front of the bytes, which may be nothing or all
abbrev pub GainsPart : Option (List ℕ) → Option (List ℕ) → List ℕ → Type 0
GainsPart old new bytes =
    (part : List ℕ) × (rest : List ℕ) × (bytes ≡ part ++ rest) × (new ≡ append_known old part)

-- of these bytes the sink gained a front, and the others wait
abbrev pub PassesOn : Option (List ℕ) → Option (List ℕ) → List ℕ → List ℕ → Type 0
PassesOn old new bytes waiting = (part : List ℕ) × (bytes ≡ part ++ waiting) × (new ≡ append_known old part)
