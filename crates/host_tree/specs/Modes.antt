-- The texts of modes.
use Rattle.std.specs.Prelude.{ℕ, ◌+◌, ◌-◌, ◌*◌, ◌/◌, ◌%◌, Bool, ◌&&◌, nat_le, List, [], ◌∷◌, Option, Some, None, if◌then◌else◌}

-- an octal digit
abbrev pub is_octal : ℕ → Bool
is_octal b = nat_le 48 b && nat_le b 55

-- the mode that four octal digits spell
abbrev pub octal_mode : ℕ → ℕ → ℕ → ℕ → Option ℕ
octal_mode a b c d =
    if is_octal a && (is_octal b && (is_octal c && is_octal d)) then Some (512 * (a - 48) + 64 * (b - 48) + 8 * (c - 48) + (d - 48)) else None

-- the mode that a text of four octal digits spells
abbrev pub mode_in : List ℕ → Option ℕ
mode_in [] = None
mode_in (a ∷ []) = None
mode_in (a ∷ b ∷ []) = None
mode_in (a ∷ b ∷ c ∷ []) = None
mode_in (a ∷ b ∷ c ∷ d ∷ []) = octal_mode a b c d
mode_in (a ∷ b ∷ c ∷ d ∷ e ∷ more) = None

-- the four octal digits of a mode
abbrev pub mode_text : ℕ → List ℕ
mode_text mode = (48 + mode / 512 % 8) ∷ (48 + mode / 64 % 8) ∷ (48 + mode / 8 % 8) ∷ (48 + mode % 8) ∷ []
