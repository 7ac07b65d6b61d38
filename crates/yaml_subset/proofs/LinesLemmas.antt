-- Lines are read one by one to what their marks come to.
use Rattle.std.proofs.Common.{◌≡◌, ◌&&◌, ◌||◌, ℕ, Bool, true, false, List, [], ◌∷◌, ◌++◌, Option, Some, None, option_map, option_and_then, if◌then◌else◌, refl, ap, sym, ◌∙◌}
use Rattle.std.specs.Prelude.{⊤}
use Rattle.doc_tree.specs.Doc.{Doc, words}
use Rattle.yaml_subset.specs.Signs.{has_tab, is_marker, is_opening, is_passed}
use Rattle.yaml_subset.specs.Literal.{a_held, add, belongs, fits, literal_text, own_indent}
use Rattle.yaml_subset.specs.Layout.{is_lone, mark_of, marks_of}
use Rattle.yaml_subset.specs.Machine.{finish, run, step, wants}
use Rattle.yaml_subset.specs.Reader.{a_reader, a_sign, end_of, enters, held_mark, outside_step, read_lines, said_step, within_step}
use Rattle.yaml_subset.specs.Said.{said_at}
use Rattle.yaml_subset.specs.declared.mark.Mark.{Mark}
use Rattle.yaml_subset.specs.declared.said.Rest.{Rest}
use Rattle.yaml_subset.specs.declared.said.Rest.TheVariants.{Nothing, Scalar, Literal}
use Rattle.yaml_subset.specs.declared.said.Said.{Said}
use Rattle.yaml_subset.specs.declared.literal.Sign.{Sign}
use Rattle.yaml_subset.specs.declared.blocks.Blocks.{Blocks}
use Rattle.yaml_subset.specs.declared.reader.Place.{Place}
use Rattle.yaml_subset.specs.declared.reader.Place.TheVariants.{Outside, Within}
use Rattle.yaml_subset.specs.declared.reader.Reader.{Reader}
use Rattle.yaml_subset.proofs.MachineLemmas.{run_append, run_none, step_unwanted}
use Rattle.yaml_subset.proofs.Laid.{Mode, outside, within, lays, lays_line, lays_said, literal_mark, mode_of, next_mode}
use Rattle.yaml_subset.proofs.Reading.{marks_end}
use Rattle.yaml_subset.proofs.LiteralLemmas.{adds_more, held_indent, held_of, literal_is}

pub lines_none : (lines : List (List ℕ)) → read_lines lines None ≡ None
lines_none [] = refl
lines_none (line ∷ lines) = lines_none lines

-- the reader behind the lines of a mode
abbrev pub place_of : Mode → Place
place_of (outside first) = Outside first
place_of (within sign own) = Within sign (held_of own)

-- a literal opens only where a value is due
abbrev pub Ready : Mode → Blocks → Type 0
Ready (outside first) s = ⊤
Ready (within sign own) s = wants sign.lone s ≡ true

-- the document of lines that are read from here
abbrev pub total : List (List ℕ) → Option Reader → Option Doc
total lines o = option_and_then end_of (read_lines lines o)

total_none : (lines : List (List ℕ)) → total lines None ≡ None
total_none lines = ap (option_and_then end_of) (lines_none lines)

-- marks from a state that may be none
abbrev from_marks : Option Blocks → Option (List Mark) → Option Doc
from_marks o laid = option_and_then (λ ms. option_map finish (run o ms)) laid

from_none : (laid : Option (List Mark)) → from_marks None laid ≡ None
from_none None = refl
from_none (Some ms) = ap (option_map finish) (run_none ms)

from_front : (s : Blocks) (front : List Mark) (laid : Option (List Mark)) → marks_end s (option_map (λ ms. front ++ ms) laid) ≡ from_marks (run (Some s) front) laid
from_front s front None = refl
from_front s front (Some ms) = ap (option_map finish) (run_append (Some s) front ms)

from_mark : (s : Blocks) (m : Mark) (laid : Option (List Mark)) → marks_end s (option_map (λ ms. m ∷ ms) laid) ≡ from_marks (step m s) laid
from_mark s m None = refl
from_mark s m (Some ms) = refl

mark_is : (sign : Sign) (own : List (List ℕ)) → held_mark sign (held_of own) ≡ literal_mark sign own
mark_is sign own = ap (λ (t : List ℕ). mark_of sign.lone (words t)) (literal_is sign.keeps own)

both : {A B C : Type 0} (f : A → C) (g : B → C) (t : Bool) (a c : A) (b d : B) → f a ≡ g b → f c ≡ g d → f (if t then a else c) ≡ g (if t then b else d)
both f g true a c b d one two = one
both f g false a c b d one two = two

-- where no value is due, nothing goes on with a literal
lays_unwanted : (lines : List (List ℕ)) (sign : Sign) (own : List (List ℕ)) (s : Blocks) → wants sign.lone s ≡ false → marks_end s (lays (within sign own) lines) ≡ None
lays_unwanted [] sign own s no_ = ap (option_map finish) (step_unwanted sign.lone (literal_text sign.keeps own) s no_)
lays_unwanted (line ∷ lines) sign own s no_ =
    cases (belongs sign.above line) (fits (own_indent own) line) (lays_unwanted lines sign (own ++ line ∷ []) s no_)
  where
    cases : (t u : Bool) → marks_end s (lays (within sign (own ++ line ∷ [])) lines) ≡ None
        → marks_end s (if t then (if u then lays (within sign (own ++ line ∷ [])) lines else None) else option_map (λ ms. literal_mark sign own ∷ ms) (lays_line (λ mode. lays mode lines) false line)) ≡ None
    cases true true more = more
    cases true false more = refl
    cases false u more =
        from_mark s (literal_mark sign own) (lays_line (λ mode. lays mode lines) false line)
        ∙ ap (λ (o : Option Blocks). from_marks o (lays_line (λ mode. lays mode lines) false line)) (step_unwanted sign.lone (literal_text sign.keeps own) s no_)
        ∙ from_none (lays_line (λ mode. lays mode lines) false line)

module _ (lines : List (List ℕ)) (more : (mode : Mode) (s : Blocks) → Ready mode s → total lines (Some (a_reader (place_of mode) s)) ≡ marks_end s (lays mode lines)) where
  literal_enters : (w lone keeps : Bool) (above : ℕ) (s : Blocks) → wants lone s ≡ w
      → total lines (if w then Some (a_reader (Within (a_sign lone keeps above) (a_held None [] [])) s) else None) ≡ marks_end s (lays (within (a_sign lone keeps above) []) lines)
  literal_enters true lone keeps above s is = more (within (a_sign lone keeps above) []) s is
  literal_enters false lone keeps above s is = total_none lines ∙ sym (lays_unwanted lines (a_sign lone keeps above) [] s is)

  rest_enters : (lone : Bool) (heads : List Mark) (above : ℕ) (rest : Rest) (s : Blocks) → lone ≡ is_lone heads → total lines (enters lone above rest s) ≡ marks_end s (lays (next_mode heads above rest) lines)
  rest_enters lone heads above Nothing s is = more (outside false) s tt
  rest_enters lone heads above (Scalar d) s is = more (outside false) s tt
  rest_enters lone heads above (Literal keeps) s is =
      literal_enters (wants lone s) lone keeps above s refl ∙ ap (λ (b : Bool). marks_end s (lays (within (a_sign b keeps above) []) lines)) is

  marks_enter : (o : Option Blocks) (d : Said) → total lines (option_and_then (enters (is_lone d.heads) d.above d.rest) o) ≡ from_marks o (lays (mode_of d) lines)
  marks_enter None d = total_none lines ∙ sym (from_none (lays (mode_of d) lines))
  marks_enter (Some s) d = rest_enters (is_lone d.heads) d.heads d.above d.rest s refl

  said_is : (o : Option Said) (s : Blocks) → total lines (said_step o s) ≡ marks_end s (lays_said (λ mode. lays mode lines) o)
  said_is None s = total_none lines
  said_is (Some d) s = marks_enter (run (Some s) (marks_of d)) d ∙ sym (from_front s (marks_of d) (lays (mode_of d) lines))

  line_is : (first : Bool) (line : List ℕ) (s : Blocks) → total lines (outside_step first line s) ≡ marks_end s (lays_line (λ mode. lays mode lines) first line)
  line_is first line s =
      both (total lines) (marks_end s) (is_passed line) _ _ _ _ (more (outside first) s tt)
      (both (total lines) (marks_end s) (first && is_opening line) _ _ _ _ (more (outside false) s tt)
      (both (total lines) (marks_end s) (is_marker line || has_tab line) _ _ _ _ (total_none lines) (said_is (said_at 0 0 line) s)))

  from_line : (o : Option Blocks) (line : List ℕ) → total lines (option_and_then (outside_step false line) o) ≡ from_marks o (lays_line (λ mode. lays mode lines) false line)
  from_line None line = total_none lines ∙ sym (from_none (lays_line (λ mode. lays mode lines) false line))
  from_line (Some s) line = line_is false line s

  within_is : (sign : Sign) (own : List (List ℕ)) (line : List ℕ) (s : Blocks) → wants sign.lone s ≡ true
      → total lines (within_step sign (held_of own) line s)
      ≡ marks_end s (if belongs sign.above line then (if fits (own_indent own) line then lays (within sign (own ++ line ∷ [])) lines else None) else option_map (λ ms. literal_mark sign own ∷ ms) (lays_line (λ mode. lays mode lines) false line))
  within_is sign own line s is =
      ap (λ (o : Option ℕ). total lines (if belongs sign.above line then (if fits o line then Some (a_reader (Within sign (add line (held_of own))) s) else None) else option_and_then (outside_step false line) (step (held_mark sign (held_of own)) s))) (held_indent own)
      ∙ both (total lines) (marks_end s) (belongs sign.above line) _ _ _ _
      (both (total lines) (marks_end s) (fits (own_indent own) line) _ _ _ _
      (ap (λ h. total lines (Some (a_reader (Within sign h) s))) (sym (adds_more own line (a_held None [] []))) ∙ more (within sign (own ++ line ∷ [])) s is) (total_none lines))
      (ap (λ (m : Mark). total lines (option_and_then (outside_step false line) (step m s))) (mark_is sign own) ∙ from_line (step (literal_mark sign own) s) line ∙ sym (from_mark s (literal_mark sign own) (lays_line (λ mode. lays mode lines) false line)))

-- the document that lines are read to is the one that their marks come to
pub lines_are : (lines : List (List ℕ)) (mode : Mode) (s : Blocks) → Ready mode s → total lines (Some (a_reader (place_of mode) s)) ≡ marks_end s (lays mode lines)
lines_are [] (outside first) s ready = refl
lines_are [] (within sign own) s ready = ap (λ (m : Mark). option_map finish (step m s)) (mark_is sign own)
lines_are (line ∷ lines) (outside first) s ready = line_is lines (lines_are lines) first line s
lines_are (line ∷ lines) (within sign own) s ready = within_is lines (lines_are lines) sign own line s ready
