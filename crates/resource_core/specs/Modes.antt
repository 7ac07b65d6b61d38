-- The modes that recipes state.
use Rattle.std.specs.Prelude.{ℕ, nat_le, List, [], ◌∷◌, Option, Some, None, if◌then◌else◌, pos, negsuc}
use Rattle.doc_tree.specs.Doc.{Doc, null, boolean, whole, words, list, dict}
use Rattle.host_tree.specs.Modes.{octal_mode}

-- the mode that three or four octal digits spell: where there are three, a zero is left out before them
abbrev pub digits_mode : List ℕ → Option ℕ
digits_mode [] = None
digits_mode (a ∷ []) = None
digits_mode (a ∷ b ∷ []) = None
digits_mode (a ∷ b ∷ c ∷ []) = octal_mode 48 a b c
digits_mode (a ∷ b ∷ c ∷ d ∷ []) = octal_mode a b c d
digits_mode (a ∷ b ∷ c ∷ d ∷ e ∷ more) = None

-- the mode that a document states: a whole number is the mode itself
abbrev pub mode_of : Doc → Option ℕ
mode_of null = None
mode_of (boolean b) = None
mode_of (whole (pos n)) = if nat_le n 4095 then Some n else None
mode_of (whole (negsuc n)) = None
mode_of (words digits) = digits_mode digits
mode_of (list ds) = None
mode_of (dict ps) = None
