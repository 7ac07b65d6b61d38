-- Literals (YAML 1.2.2, section 8.1.2): which lines are a literal's, and the text of these.
use Rattle.std.specs.Prelude.{ℕ, ◌&&◌, ◌||◌, Bool, true, false, nat_le, is_none, if◌then◌else◌, List, [], ◌∷◌, ◌++◌, drop, Option, Some, None}
use Rattle.yaml_subset.specs.Signs.{indent, is_blank, is_marker}
use Rattle.yaml_subset.specs.declared.literal.Held.{Held}

-- a line is a literal's: it is blank, or has this indent at least
abbrev pub belongs : ℕ → List ℕ → Bool
belongs above line = is_blank line || nat_le above (indent line)

-- nothing but blank lines
abbrev pub all_blank : List (List ℕ) → Bool
all_blank [] = true
all_blank (line ∷ lines) = is_blank line && all_blank lines

-- the indent of the first line that isn't blank
abbrev pub own_indent : List (List ℕ) → Option ℕ
own_indent [] = None
own_indent (line ∷ lines) = if is_blank line then own_indent lines else Some (indent line)

-- the indent that is cut off a line: that of the first line that isn't blank, where there was one
abbrev pub cut_at : Option ℕ → List ℕ → ℕ
cut_at None line = indent line
cut_at (Some n) line = n

-- the line without that; a blank line counts as empty
abbrev pub cut : Option ℕ → List ℕ → List ℕ
cut own line = if is_blank line then [] else drop (cut_at own line) line

-- a line may come: it is no marker, and it is blank or its indent is that of the first that isn't blank at least
abbrev pub fits : Option ℕ → List ℕ → Bool
fits own line = if is_marker line then false else is_blank line || nat_le (cut_at own line) (indent line)

-- the lines up to the last that isn't blank, each cut, joined by line feeds
abbrev pub joined : Option ℕ → List (List ℕ) → List ℕ
joined own [] = []
joined own (line ∷ lines) = if all_blank lines then cut own line else cut own line ++ 10 ∷ joined own lines

-- a line feed, or none
abbrev pub feed : Bool → List ℕ
feed keeps = if keeps then 10 ∷ [] else []

-- the text of a literal's lines: `|` ends it with a line feed where it isn't empty, `|-` with none
abbrev pub literal_text : Bool → List (List ℕ) → List ℕ
literal_text keeps lines = if all_blank lines then [] else joined (own_indent lines) lines ++ feed keeps

-- ---- as it is read, line by line

-- the text so far, without the line feeds that come before the next line that isn't blank
abbrev pub a_held : Option ℕ → List ℕ → List ℕ → Held
a_held indent text feeds = record { indent = indent; text = text; feeds = feeds }

-- one line more
abbrev pub add : List ℕ → Held → Held
add line h = if is_blank line then a_held h.indent h.text (h.feeds ++ 10 ∷ []) else a_held (Some (cut_at h.indent line)) (h.text ++ (h.feeds ++ drop (cut_at h.indent line) line)) (10 ∷ [])

-- the text where the literal ends
abbrev pub held_text : Bool → Held → List ℕ
held_text keeps h = if is_none h.indent then [] else h.text ++ feed keeps

-- one line more that isn't blank, where it fits
abbrev pub add_full : List ℕ → Held → Option Held
add_full line h =
    if nat_le (cut_at h.indent line) (indent line) then Some (a_held (Some (cut_at h.indent line)) (h.text ++ (h.feeds ++ drop (cut_at h.indent line) line)) (10 ∷ [])) else None
