-- The words in which an option is read.
use Rattle.std.specs.Prelude.{◌≡◌, ◌||◌, ℕ, Bool, false, List, codes, bytes_eq, IsUtf8}

-- a word that `clap` takes for more than it says: `-` for any value, and `--` for the end of the options
abbrev pub is_lone : List ℕ → Bool
is_lone word = bytes_eq word (codes "-") || bytes_eq word (codes "--")

-- a word that is read as it stands
pub record IsPlainWord (word : List ℕ) : Type 0 where
  pub utf8 : IsUtf8 word
  pub not_lone : is_lone word ≡ false
