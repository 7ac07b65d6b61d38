-- The marks that lines have are those that are found.
use Rattle.std.proofs.Common.{◌≡◌, ◌&&◌, ◌||◌, ℕ, Bool, true, false, bytes_eq, codes, List, [], ◌∷◌, ◌++◌, Option, Some, None, option_map, if◌then◌else◌, inl, inr, refl, ap, sym, subst, ◌∙◌, append_assoc, append-nil}
use Rattle.std.proofs.lemmas.Bool.{and_from, and_parts, and_right, cond-true, cond-false, or_parts}
use Rattle.std.proofs.lemmas.Option.{same_Some}
use Rattle.std.proofs.lemmas.Slice.Eq.{bytes_eq-Decides}
use Rattle.std.specs.List.{list_all}
use Rattle.yaml_subset.specs.Signs.{has_tab, indent, is_blank, is_marker, is_opening, is_passed}
use Rattle.yaml_subset.specs.Literal.{belongs, fits, own_indent}
use Rattle.yaml_subset.specs.Layout.{Lays, no_line, passed, opening, says, opens_literal, is_literal, is_lone, is_past, is_refused, marks_of}
use Rattle.yaml_subset.specs.Reader.{a_sign}
use Rattle.yaml_subset.specs.Said.{said_at}
use Rattle.yaml_subset.specs.Says.{Says, a_said}
use Rattle.yaml_subset.specs.declared.mark.Mark.{Mark}
use Rattle.yaml_subset.specs.declared.said.Rest.{Rest}
use Rattle.yaml_subset.specs.declared.said.Rest.TheVariants.{Nothing, Scalar, Literal}
use Rattle.yaml_subset.specs.declared.said.Said.{Said}
use Rattle.yaml_subset.specs.declared.literal.Sign.{Sign}
use Rattle.yaml_subset.proofs.Laid.{Mode, outside, within, lays, lays_line, lays_said, literal_mark, mode_of, next_mode}
use Rattle.yaml_subset.proofs.SaysLemmas.{map_parts, said_says, says_said, split_if}

-- ---- whether a line fits is told by those before it, or by all of the literal's

own_front : (done : List (List ℕ)) (x : List ℕ) (t : Bool) (one two : Option ℕ) (line : List ℕ) → fits one line ≡ fits two line → fits (if t then one else Some (indent x)) line ≡ fits (if t then two else Some (indent x)) line
own_front done x true one two line same = same
own_front done x false one two line same = refl

fits_first : (line : List ℕ) (more : List (List ℕ)) (t : Bool) → is_blank line ≡ t → fits (own_indent (line ∷ more)) line ≡ fits None line
fits_first line more true blank = rw blank refl
fits_first line more false blank = rw blank refl

fits_whole : (done : List (List ℕ)) (line : List ℕ) (more : List (List ℕ)) → fits (own_indent (done ++ line ∷ more)) line ≡ fits (own_indent done) line
fits_whole [] line more = fits_first line more (is_blank line) refl
fits_whole (x ∷ done) line more = own_front done x (is_blank x) (own_indent (done ++ line ∷ more)) (own_indent done) line (fits_whole done line more)

-- ---- the marks that lines have are found

-- lines of a literal, of which these are all
abbrev AreOf : ℕ → List (List ℕ) → List (List ℕ) → Type 0
AreOf above all own = list_all (λ line. belongs above line && fits (own_indent all) line) own ≡ true

past_lays : (sign : Sign) (own more : List (List ℕ)) (marks : List Mark) → is_past sign.above more ≡ true → lays (outside false) more ≡ Some marks → lays (within sign own) more ≡ Some (literal_mark sign own ∷ marks)
past_lays sign own [] marks past is = ap (λ (ms : List Mark). Some (literal_mark sign own ∷ ms)) (same_Some [] marks is)
past_lays sign own (line ∷ lines) marks past is = elim (split_if (belongs sign.above line) false true true past) [
  | inl h ↦ let no_ = h.1 in cc
  | inr h ↦ cond-false (belongs sign.above line) _ _ h.0 ∙ ap (option_map (λ ms. literal_mark sign own ∷ ms)) is
]

own_lays : (sign : Sign) (own done all more : List (List ℕ)) (marks : List Mark) → all ≡ done ++ own → AreOf sign.above all own → is_past sign.above more ≡ true → lays (outside false) more ≡ Some marks
    → lays (within sign done) (own ++ more) ≡ Some (literal_mark sign all ∷ marks)
own_lays sign [] done all more marks is are past found =
    past_lays sign done more marks past found ∙ ap (λ (l : List (List ℕ)). Some (literal_mark sign l ∷ marks)) (sym (is ∙ append-nil done))
own_lays sign (line ∷ own) done all more marks is are past found =
    let (here, rest) = and_parts (belongs sign.above line && fits (own_indent all) line) _ are in
    let (belongs_, fits_) = and_parts (belongs sign.above line) (fits (own_indent all) line) here in
    let fits_front : fits (own_indent done) line ≡ true = sym (fits_whole done line own) ∙ ap (λ (l : List (List ℕ)). fits (own_indent l) line) (sym is) ∙ fits_ in
    cond-true (belongs sign.above line) _ _ belongs_ ∙ cond-true (fits (own_indent done) line) _ _ fits_front
    ∙ own_lays sign own (done ++ line ∷ []) all more marks (is ∙ sym (append_assoc done (line ∷ []) own)) rest past found

opening_counts : (line : List ℕ) → is_opening line ≡ true → is_passed line ≡ false
opening_counts line is = ap is_passed ((bytes_eq-Decides line (codes "---")).0 is)

said_lays : (first : Bool) (line : List ℕ) (lines : List (List ℕ)) (s : Said) → is_passed line ≡ false → is_refused line ≡ false → Says 0 0 line s
    → lays (outside first) (line ∷ lines) ≡ option_map (λ ms. marks_of s ++ ms) (lays (mode_of s) lines)
said_lays first line lines s counts fine said =
    let marker = (or_parts (is_marker line) (has_tab line) fine).0 in
    cond-false (is_passed line) _ _ counts
    ∙ cond-false (first && is_opening line) _ _ (and_right first (is_opening line) (or_parts (is_opening line) (bytes_eq line (codes "...")) marker).0)
    ∙ cond-false (is_refused line) _ _ fine ∙ ap (lays_said (λ mode. lays mode lines)) (says_said said)

after_no_literal : (heads : List Mark) (above : ℕ) (rest : Rest) → is_literal rest ≡ false → next_mode heads above rest ≡ outside false
after_no_literal heads above Nothing no_ = refl
after_no_literal heads above (Scalar d) no_ = refl
after_no_literal heads above (Literal keeps) no_ = cc

-- the marks that lines have are found
pub lays_are : {first : Bool} {lines : List (List ℕ)} {marks : List Mark} → Lays first lines marks → lays (outside first) lines ≡ Some marks
lays_are no_line = refl
lays_are (passed {line = line} is more) = cond-true (is_passed line) _ _ is ∙ lays_are more
lays_are (opening {line = line} is more) = cond-false (is_passed line) _ _ (opening_counts line is) ∙ cond-true (is_opening line) _ _ is ∙ lays_are more
lays_are (says {first = first} {line = line} {lines = lines} {s = s} counts fine said plain more) =
    said_lays first line lines s counts fine said
    ∙ ap (λ mode. option_map (λ ms. marks_of s ++ ms) (lays mode lines)) (after_no_literal s.heads s.above s.rest plain)
    ∙ ap (option_map (λ ms. marks_of s ++ ms)) (lays_are more)
lays_are (opens_literal {first = first} {keeps = keeps} {above = above} {line = line} {lines = lines} {heads = heads} {marks = marks} own counts fine said are past more) =
    said_lays first line (own ++ lines) (a_said heads above (Literal keeps)) counts fine said
    ∙ ap (option_map (λ ms. (heads ++ []) ++ ms)) (own_lays (a_sign (is_lone heads) keeps above) own [] own lines marks refl are past (lays_are more))
    ∙ ap (λ (ms : List Mark). Some (ms ++ literal_mark (a_sign (is_lone heads) keeps above) own ∷ marks)) (append-nil heads)

-- ---- the marks that are found are those of the lines

-- what lines are found to be, outside of a literal and in one
abbrev IsLaid : Mode → List (List ℕ) → List Mark → Type 0
IsLaid (outside first) lines marks = Lays first lines marks
IsLaid (within sign done) lines marks =
    (own : List (List ℕ)) × (more : List (List ℕ)) × (rest : List Mark) × (lines ≡ own ++ more) × AreOf sign.above (done ++ own) own × (is_past sign.above more ≡ true) × Lays false more rest × (marks ≡ literal_mark sign (done ++ own) ∷ rest)

abbrev Found : List (List ℕ) → Type 0
Found lines = (mode : Mode) (marks : List Mark) → lays mode lines ≡ Some marks → IsLaid mode lines marks

plain_line : (first : Bool) (line : List ℕ) (lines : List (List ℕ)) (heads : List Mark) (above : ℕ) (rest : Rest) (marks : List Mark) → is_passed line ≡ false → is_refused line ≡ false → Says 0 0 line (a_said heads above rest)
    → Found lines → lays (next_mode heads above rest) lines ≡ Some marks → Lays first (line ∷ lines) (marks_of (a_said heads above rest) ++ marks)
plain_line first line lines heads above Nothing marks counts fine said more is = says counts fine said refl (more (outside false) marks is)
plain_line first line lines heads above (Scalar d) marks counts fine said more is = says counts fine said refl (more (outside false) marks is)
plain_line first line lines heads above (Literal keeps) marks counts fine said more is =
    let (own, rest_lines, rest, same, are, past, laid, marks_are) = more (within (a_sign (is_lone heads) keeps above) []) marks is in
    subst (λ (l : List (List ℕ)). Lays first (line ∷ l) ((heads ++ []) ++ marks)) (sym same)
    (subst (λ (l : List Mark). Lays first (line ∷ (own ++ rest_lines)) l) (sym (ap (λ (l : List Mark). l ++ marks) (append-nil heads) ∙ ap (λ (l : List Mark). heads ++ l) marks_are)) (opens_literal own counts fine said are past laid))

said_line : (first : Bool) (line : List ℕ) (lines : List (List ℕ)) (o : Option Said) (marks : List Mark) → is_passed line ≡ false → is_refused line ≡ false → said_at 0 0 line ≡ o → Found lines
    → lays_said (λ mode. lays mode lines) o ≡ Some marks → Lays first (line ∷ lines) marks
said_line first line lines None marks counts fine said more is = cc
said_line first line lines (Some s) marks counts fine said more is =
    let (rest, laid, same) = map_parts (λ ms. marks_of s ++ ms) (lays (mode_of s) lines) marks is in
    subst (λ (l : List Mark). Lays first (line ∷ lines) l) same (plain_line first line lines s.heads s.above s.rest rest counts fine (said_says line 0 0 s said) more laid)

opening_line : (first : Bool) (line : List ℕ) (lines : List (List ℕ)) (marks : List Mark) → (first && is_opening line) ≡ true → Lays false lines marks → Lays first (line ∷ lines) marks
opening_line true line lines marks is more = opening is more
opening_line false line lines marks is more = cc

line_laid : (first : Bool) (line : List ℕ) (lines : List (List ℕ)) (marks : List Mark) → Found lines → lays_line (λ mode. lays mode lines) first line ≡ Some marks → Lays first (line ∷ lines) marks
line_laid first line lines marks more is = elim (split_if (is_passed line) _ _ (Some marks) is) [
  | inl h ↦ passed h.0 (more (outside first) marks h.1)
  | inr h ↦ elim (split_if (first && is_opening line) _ _ (Some marks) h.1) [
    | inl f ↦ opening_line first line lines marks f.0 (more (outside false) marks f.1)
    | inr f ↦ elim (split_if (is_marker line || has_tab line) _ _ (Some marks) f.1) [
      | inl g ↦ let no_ = g.1 in cc
      | inr g ↦ said_line first line lines (said_at 0 0 line) marks h.0 g.0 refl more g.1
    ]
  ]
]

own_line : (sign : Sign) (done : List (List ℕ)) (line : List ℕ) (lines : List (List ℕ)) (marks : List Mark) → belongs sign.above line ≡ true → fits (own_indent done) line ≡ true → IsLaid (within sign (done ++ line ∷ [])) lines marks → IsLaid (within sign done) (line ∷ lines) marks
own_line sign done line lines marks belongs_ fits_ laid =
    let (own, more, rest, same, are, past, lays_, marks_are) = laid in
    let again = append_assoc done (line ∷ []) own in
    let are_all : AreOf sign.above (done ++ line ∷ own) own = subst (λ (l : List (List ℕ)). AreOf sign.above l own) again are in
    let here = and_from (belongs sign.above line) (fits (own_indent (done ++ line ∷ own)) line) belongs_ (fits_whole done line own ∙ fits_) in
    (line ∷ own, more, rest, ap (λ (l : List (List ℕ)). line ∷ l) same, and_from (belongs sign.above line && fits (own_indent (done ++ line ∷ own)) line) _ here are_all, past, lays_, marks_are ∙ ap (λ (l : List (List ℕ)). literal_mark sign l ∷ rest) again)

end_own : (sign : Sign) (done : List (List ℕ)) (lines : List (List ℕ)) (marks rest : List Mark) → is_past sign.above lines ≡ true → Lays false lines rest → literal_mark sign done ∷ rest ≡ marks → IsLaid (within sign done) lines marks
end_own sign done lines marks rest past laid is = ([], lines, rest, refl, refl, past, laid, sym is ∙ ap (λ (l : List (List ℕ)). literal_mark sign l ∷ rest) (sym (append-nil done)))

within_laid : (sign : Sign) (done : List (List ℕ)) (line : List ℕ) (lines : List (List ℕ)) (marks : List Mark) → Found lines → lays (within sign done) (line ∷ lines) ≡ Some marks → IsLaid (within sign done) (line ∷ lines) marks
within_laid sign done line lines marks more is = elim (split_if (belongs sign.above line) _ _ (Some marks) is) [
  | inl h ↦ elim (split_if (fits (own_indent done) line) _ _ (Some marks) h.1) [
    | inl f ↦ own_line sign done line lines marks h.0 f.0 (more (within sign (done ++ line ∷ [])) marks f.1)
    | inr f ↦ let no_ = f.1 in cc
  ]
  | inr h ↦ let (rest, laid, same) = map_parts (λ ms. literal_mark sign done ∷ ms) (lays_line (λ mode. lays mode lines) false line) marks h.1 in
      end_own sign done (line ∷ lines) marks rest (cond-false (belongs sign.above line) false true h.0) (line_laid false line lines rest more laid) same
]

found : (lines : List (List ℕ)) → Found lines
found [] (outside first) marks is = subst (λ (l : List Mark). Lays first [] l) (same_Some [] marks is) no_line
found [] (within sign done) marks is = end_own sign done [] marks [] refl no_line (same_Some (literal_mark sign done ∷ []) marks is)
found (line ∷ lines) (outside first) marks is = line_laid first line lines marks (found lines) is
found (line ∷ lines) (within sign done) marks is = within_laid sign done line lines marks (found lines) is

-- the marks that are found are those of the lines
pub are_lays : (first : Bool) (lines : List (List ℕ)) (marks : List Mark) → lays (outside first) lines ≡ Some marks → Lays first lines marks
are_lays first lines marks is = found lines (outside first) marks is
