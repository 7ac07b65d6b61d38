-- The marks of lines, found one line after another.
use Rattle.std.proofs.Common.{ℕ, Bool, false, ◌&&◌, ◌||◌, if◌then◌else◌, List, [], ◌∷◌, ◌++◌, Option, Some, None, option_map}
use Rattle.doc_tree.specs.Doc.{words}
use Rattle.yaml_subset.specs.Signs.{has_tab, is_marker, is_opening, is_passed}
use Rattle.yaml_subset.specs.Literal.{belongs, fits, literal_text, own_indent}
use Rattle.yaml_subset.specs.Layout.{is_lone, mark_of, marks_of}
use Rattle.yaml_subset.specs.Reader.{a_sign}
use Rattle.yaml_subset.specs.Said.{said_at}
use Rattle.yaml_subset.specs.declared.mark.Mark.{Mark}
use Rattle.yaml_subset.specs.declared.said.Rest.{Rest}
use Rattle.yaml_subset.specs.declared.said.Rest.TheVariants.{Nothing, Scalar, Literal}
use Rattle.yaml_subset.specs.declared.said.Said.{Said}
use Rattle.yaml_subset.specs.declared.literal.Sign.{Sign}

-- outside of literals, maybe with no line that counted yet; or in a literal, with its lines so far
pub data Mode : Type 0 where
  outside : Bool → Mode
  within : Sign → List (List ℕ) → Mode

-- what the line that says this is followed by
abbrev pub next_mode : List Mark → ℕ → Rest → Mode
next_mode heads above Nothing = outside false
next_mode heads above (Scalar d) = outside false
next_mode heads above (Literal keeps) = within (a_sign (is_lone heads) keeps above) []

abbrev pub mode_of : Said → Mode
mode_of s = next_mode s.heads s.above s.rest

-- the mark of a literal of these lines
abbrev pub literal_mark : Sign → List (List ℕ) → Mark
literal_mark sign own = mark_of sign.lone (words (literal_text sign.keeps own))

-- the marks of a line that says this, and of those that follow it
abbrev pub lays_said : (Mode → Option (List Mark)) → Option Said → Option (List Mark)
lays_said rest None = None
lays_said rest (Some s) = option_map (λ ms. marks_of s ++ ms) (rest (mode_of s))

-- the marks of a line outside of literals, and of those that follow it: it is passed over, or opens the text, or says something
abbrev pub lays_line : (Mode → Option (List Mark)) → Bool → List ℕ → Option (List Mark)
lays_line rest first line =
    if is_passed line then rest (outside first)
    else (if first && is_opening line then rest (outside false) else (if is_marker line || has_tab line then None else lays_said rest (said_at 0 0 line)))

-- the marks of lines
abbrev pub lays : Mode → List (List ℕ) → Option (List Mark)
lays (outside first) [] = Some []
lays (within sign own) [] = Some (literal_mark sign own ∷ [])
lays (outside first) (line ∷ lines) = lays_line (λ mode. lays mode lines) first line
lays (within sign own) (line ∷ lines) =
    if belongs sign.above line then (if fits (own_indent own) line then lays (within sign (own ++ line ∷ [])) lines else None)
    else option_map (λ ms. literal_mark sign own ∷ ms) (lays_line (λ mode. lays mode lines) false line)
