-- Keys of names: numbers by which most names are told apart without a look at their texts.
use Rattle.std.specs.Prelude.{ℕ, ◌+◌, ◌*◌, ◌%◌, ◌^◌, List, [], ◌∷◌}
use Rattle.dep_solver.specs.Names.{CookbookName}

-- a key with one more byte
abbrev pub key_step : ℕ → ℕ → ℕ
key_step key byte = ((key * 31) % 2 ^ 64 + byte) % 2 ^ 64

-- a key with more bytes, one after the other
abbrev pub key_from : ℕ → List ℕ → ℕ
key_from key [] = key
key_from key (byte ∷ bytes) = key_from (key_step key byte) bytes

-- the key of a name
abbrev pub key_of : CookbookName → ℕ
key_of name = key_from 0 name
