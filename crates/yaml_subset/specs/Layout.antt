-- The marks of a text's lines: which lines are passed over, which one opens a text, and which belong to a literal.
use Rattle.std.specs.Prelude.{◌≡◌, ℕ, Bool, true, false, ◌&&◌, ◌||◌, if◌then◌else◌, List, [], ◌∷◌, ◌++◌}
use Rattle.std.specs.List.{list_all}
use Rattle.doc_tree.specs.Doc.{Doc, words}
use Rattle.yaml_subset.specs.Signs.{has_tab, is_marker, is_opening, is_passed}
use Rattle.yaml_subset.specs.Literal.{belongs, fits, literal_text, own_indent}
use Rattle.yaml_subset.specs.Says.{Says, a_said}
use Rattle.yaml_subset.specs.declared.mark.Mark.{Mark}
use Rattle.yaml_subset.specs.declared.mark.Mark.TheVariants.{Value, Bare}
use Rattle.yaml_subset.specs.declared.said.Rest.{Rest}
use Rattle.yaml_subset.specs.declared.said.Rest.TheVariants.{Nothing, Scalar, Literal}
use Rattle.yaml_subset.specs.declared.said.Said.{Said}

-- a value behind marks of its line, or alone
abbrev pub mark_of : Bool → Doc → Mark
mark_of lone d = if lone then Bare d else Value d

-- whether a line has no dash and no key
abbrev pub is_lone : List Mark → Bool
is_lone [] = true
is_lone (m ∷ heads) = false

-- the marks of what stands behind dashes and a key; a literal's comes where its lines end
abbrev pub rest_marks : Bool → Rest → List Mark
rest_marks lone Nothing = []
rest_marks lone (Scalar d) = mark_of lone d ∷ []
rest_marks lone (Literal keeps) = []

-- the marks of a line
abbrev pub marks_of : Said → List Mark
marks_of s = s.heads ++ rest_marks (is_lone s.heads) s.rest

-- a literal's sign
abbrev pub is_literal : Rest → Bool
is_literal Nothing = false
is_literal (Scalar d) = false
is_literal (Literal keeps) = true

-- a line that says nothing: a marker, or one with a tab in its leading white space
abbrev pub is_refused : List ℕ → Bool
is_refused line = is_marker line || has_tab line

-- the lines of a literal: each is blank or has this indent at least, and none that isn't blank lies left of the first
abbrev pub are_own : ℕ → List (List ℕ) → Bool
are_own above own = list_all (λ line. belongs above line && fits (own_indent own) line) own

-- no line, or first one that isn't the literal's
abbrev pub is_past : ℕ → List (List ℕ) → Bool
is_past above [] = true
is_past above (line ∷ lines) = if belongs above line then false else true

-- lines have these marks, where no line counted yet or one did: a line is passed over; `---` opens the text; a line has the marks of what it says; behind a literal's sign come the literal's lines, and then those that follow it
pub data Lays : Bool → List (List ℕ) → List Mark → Type 0 where
  no_line : {first : Bool} → Lays first [] []
  passed : {first : Bool} {line : List ℕ} {lines : List (List ℕ)} {marks : List Mark}
      → is_passed line ≡ true → Lays first lines marks → Lays first (line ∷ lines) marks
  opening : {line : List ℕ} {lines : List (List ℕ)} {marks : List Mark}
      → is_opening line ≡ true → Lays false lines marks → Lays true (line ∷ lines) marks
  says : {first : Bool} {line : List ℕ} {lines : List (List ℕ)} {marks : List Mark} {s : Said}
      → is_passed line ≡ false → is_refused line ≡ false → Says 0 0 line s → is_literal s.rest ≡ false
      → Lays false lines marks → Lays first (line ∷ lines) (marks_of s ++ marks)
  opens_literal : {first keeps : Bool} {above : ℕ} {line : List ℕ} {lines : List (List ℕ)} {heads marks : List Mark} (own : List (List ℕ))
      → is_passed line ≡ false → is_refused line ≡ false → Says 0 0 line (a_said heads above (Literal keeps)) → are_own above own ≡ true → is_past above lines ≡ true
      → Lays false lines marks → Lays first (line ∷ (own ++ lines)) (heads ++ mark_of (is_lone heads) (words (literal_text keeps own)) ∷ marks)
