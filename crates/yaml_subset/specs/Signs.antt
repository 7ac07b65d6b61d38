-- Lines and their parts before anything is read of them: indent, blank lines, comments, markers (YAML 1.2.2, chapters 6 and 9).
use Rattle.std.specs.Prelude.{ℕ, zero, suc, ◌+◌, Bool, true, false, ◌&&◌, ◌||◌, ◌==◌, nat_lt, if◌then◌else◌, bytes_eq, List, [], ◌∷◌, codes, Option, Some, None}

-- nothing but spaces
abbrev pub is_blank : List ℕ → Bool
is_blank [] = true
is_blank (b ∷ text) = b == 32 && is_blank text

-- blank, or a comment after spaces
abbrev pub is_passed : List ℕ → Bool
is_passed [] = true
is_passed (b ∷ text) = if b == 32 then is_passed text else b == 35

-- what may stand behind a value: nothing, or a space and then blanks or a comment
abbrev pub is_tail : List ℕ → Bool
is_tail [] = true
is_tail (b ∷ text) = b == 32 && is_passed text

-- nothing, or a space first
abbrev pub is_apart : List ℕ → Bool
is_apart [] = true
is_apart (b ∷ text) = b == 32

-- the number of leading spaces
abbrev pub indent : List ℕ → ℕ
indent [] = 0
indent (b ∷ text) = if b == 32 then suc (indent text) else 0

-- a tab stands in the leading white space
abbrev pub has_tab : List ℕ → Bool
has_tab [] = false
has_tab (b ∷ text) = if b == 32 then has_tab text else b == 9

-- the line that may open a text
abbrev pub is_opening : List ℕ → Bool
is_opening line = bytes_eq line (codes "---")

-- the lines that no other line may be
abbrev pub is_marker : List ℕ → Bool
is_marker line = bytes_eq line (codes "---") || bytes_eq line (codes "...")

-- the text up to its blank end or its comment
abbrev pub trimmed : List ℕ → List ℕ
trimmed [] = []
trimmed (b ∷ text) = if is_tail (b ∷ text) then [] else b ∷ trimmed text

-- a place, so many bytes further on
abbrev pub later : ℕ → Option ℕ → Option ℕ
later i None = None
later i (Some n) = Some (i + n)

-- the place of the first colon before a space or the end
abbrev pub colon_at : List ℕ → Option ℕ
colon_at [] = None
colon_at (b ∷ text) = if b == 58 && is_apart text then Some 0 else later 1 (colon_at text)

-- so many spaces
abbrev pub spaces : ℕ → List ℕ
spaces zero = []
spaces (suc n) = 32 ∷ spaces n

-- a byte with which no plain scalar begins
abbrev pub is_indicator : ℕ → Bool
is_indicator b =
    b == 44 || (b == 91 || (b == 93 || (b == 123 || (b == 125 || (b == 35 || (b == 38 || (b == 42 || (b == 33 || (b == 124 || (b == 62 || (b == 39 || (b == 34 || (b == 37 || (b == 64 || b == 96))))))))))))))

-- a byte that ends a plain scalar in a flow
abbrev pub is_flow_sign : ℕ → Bool
is_flow_sign b = b == 44 || (b == 91 || (b == 93 || (b == 123 || b == 125)))

-- a quote
abbrev pub is_quote : ℕ → Bool
is_quote b = b == 34 || b == 39

-- where the text ends that `trimmed` gives, as one pass over it finds it: behind the last byte so far that isn't a space
abbrev pub ended : ℕ → ℕ → List ℕ → ℕ
ended end i [] = end
ended end i (b ∷ text) = if b == 35 && nat_lt end i then end else ended (if b == 32 then end else suc i) (suc i) text
