-- The two ends between which, in the order of bytes, what is below a path stands.
use Rattle.std.specs.Prelude.{◌≡◌, ℕ, ◌-◌, List, [], ◌∷◌, ◌++◌, length, take}

-- a text without its last byte
abbrev pub front_of : List ℕ → List ℕ
front_of text = take (length text - 1) text

-- the path with a slash behind it, and with the byte after the slash behind it
abbrev pub AreEnds : List ℕ → List ℕ → List ℕ → Type 0
AreEnds path from to = (from ≡ path ++ 47 ∷ []) × (to ≡ path ++ 48 ∷ [])
