-- What is left of all that a peer sends.
use Rattle.std.specs.Prelude.{◌≡◌, ℕ, List, Option}
use Rattle.std.specs.Io.KnownBytes.{prepend_known}

-- what is left is the input without some bytes at its front, or all of it
abbrev pub IsRest : Option (List ℕ) → Option (List ℕ) → Type 0
IsRest input left = (taken : List ℕ) × (input ≡ prepend_known taken left)
