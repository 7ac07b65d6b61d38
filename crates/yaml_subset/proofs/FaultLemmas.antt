-- The line at which a text stops to spell a tree.
use Rattle.std.proofs.Common.{◌≡◌, ◌&&◌, ◌||◌, ◌<◌, ◌≤◌, ◌+◌, ◌-◌, ℕ, zero, suc, Bool, true, false, nat_le, List, [], ◌∷◌, take, drop, length, get_or, slice_get, Option, Some, None, option_map, option_and_then, if◌then◌else◌, refl, ap, sym, subst, ◌∙◌, arith}
use Rattle.std.proofs.lemmas.Bool.Decides.{nat_tests}
use Rattle.std.proofs.lemmas.List.{drop_more, drop_all}
use Rattle.std.proofs.lemmas.Option.{slice_get-get_or}
use Rattle.std.specs.Prelude.{⊤}
use Rattle.doc_tree.specs.Doc.{Doc, words}
use Rattle.yaml_subset.specs.Signs.{has_tab, is_marker, is_opening, is_passed}
use Rattle.yaml_subset.specs.Literal.{a_held, belongs, fits, held_text}
use Rattle.yaml_subset.specs.Layout.{is_lone, mark_of, marks_of}
use Rattle.yaml_subset.specs.Machine.{fill, finish, inside, place, room_of, run, step, wants}
use Rattle.yaml_subset.specs.declared.blocks.Frame.{Frame}
use Rattle.yaml_subset.specs.Reader.{a_reader, a_sign, end_of, enters, first_reader, held_mark, outside_step, place_end, place_step, read_lines, read_step, said_step, taken_lines}
use Rattle.yaml_subset.specs.Said.{said_at}
use Rattle.yaml_subset.specs.Spells.{Begins, IsLine, SpellsLines, kind_of}
use Rattle.yaml_subset.specs.declared.fault.FaultKind.{FaultKind}
use Rattle.yaml_subset.specs.declared.said.Rest.{Rest}
use Rattle.yaml_subset.specs.declared.said.Rest.TheVariants.{Nothing, Scalar, Literal}
use Rattle.yaml_subset.specs.declared.said.Said.{Said}
use Rattle.yaml_subset.specs.declared.blocks.Blocks.{Blocks}
use Rattle.yaml_subset.specs.declared.blocks.Blocks.TheVariants.{Start, Alone, Within}
use Rattle.yaml_subset.specs.declared.reader.Place.{Place}
use Rattle.yaml_subset.specs.declared.reader.Place.TheVariants as at_place
use Rattle.yaml_subset.specs.declared.reader.Reader.{Reader}
use Rattle.yaml_subset.proofs.MachineLemmas.{land_stops}
use Rattle.yaml_subset.proofs.Laid.{lays, outside}
use Rattle.yaml_subset.proofs.LinesLemmas.{lines_are, lines_none, total}
use Rattle.yaml_subset.proofs.Reading.{comes_spells, spells_comes}

-- ---- what was read can always end

least : (n : ℕ) → nat_le 0 n ≡ true
least n = grind (arith, nat_tests)

placed : (due : Bool) (f : Frame) (below : List Frame) (t : List ℕ) → due ≡ true → nat_le 0 (room_of f) ≡ true → place (mark_of false (words t)) due f below ≡ Some (inside false (fill (words t) f) below)
placed due f below t is fits = rw (is, fits) refl

step_wanted : (lone : Bool) (t : List ℕ) (s : Blocks) → wants lone s ≡ true → (x : Blocks) × (step (mark_of lone (words t)) s ≡ Some x)
step_wanted true t Start is = (Alone (words t), refl)
step_wanted true t (Alone d) is = cc
step_wanted true t (Within i) is = cc
step_wanted false t Start is = cc
step_wanted false t (Alone d) is = cc
step_wanted false t (Within i) is = let fits = least (room_of i.frame) in (inside false (fill (words t) i.frame) i.below, land_stops (mark_of false (words t)) i.due i.frame i.below refl ∙ placed i.due i.frame i.below t is fits)

-- a literal is open only where a value is due
abbrev FineAt : Place → Blocks → Type 0
FineAt (at_place.Outside first) s = ⊤
FineAt (at_place.Within sign h) s = wants sign.lone s ≡ true

abbrev pub Fine : Reader → Type 0
Fine r = FineAt r.place r.blocks

abbrev FineIf : Option Reader → Type 0
FineIf None = ⊤
FineIf (Some r) = Fine r

fine_if : (t : Bool) (x y : Option Reader) → FineIf x → FineIf y → FineIf (if t then x else y)
fine_if true x y one two = one
fine_if false x y one two = two

literal_fine : (w lone keeps : Bool) (above : ℕ) (s : Blocks) → wants lone s ≡ w → FineIf (if w then Some (a_reader (at_place.Within (a_sign lone keeps above) (a_held None [] [])) s) else None)
literal_fine true lone keeps above s is = is
literal_fine false lone keeps above s is = tt

enters_fine : (lone : Bool) (above : ℕ) (rest : Rest) (s : Blocks) → FineIf (enters lone above rest s)
enters_fine lone above Nothing s = tt
enters_fine lone above (Scalar d) s = tt
enters_fine lone above (Literal keeps) s = literal_fine (wants lone s) lone keeps above s refl

enter_fine : (lone : Bool) (above : ℕ) (rest : Rest) (o : Option Blocks) → FineIf (option_and_then (enters lone above rest) o)
enter_fine lone above rest None = tt
enter_fine lone above rest (Some s) = enters_fine lone above rest s

said_fine : (o : Option Said) (s : Blocks) → FineIf (said_step o s)
said_fine None s = tt
said_fine (Some d) s = enter_fine (is_lone d.heads) d.above d.rest (run (Some s) (marks_of d))

outside_fine : (first : Bool) (line : List ℕ) (s : Blocks) → FineIf (outside_step first line s)
outside_fine first line s =
    fine_if (is_passed line) _ _ tt (fine_if (first && is_opening line) _ _ tt (fine_if (is_marker line || has_tab line) _ _ tt (said_fine (said_at 0 0 line) s)))

after_fine : (o : Option Blocks) (line : List ℕ) → FineIf (option_and_then (outside_step false line) o)
after_fine None line = tt
after_fine (Some s) line = outside_fine false line s

place_fine : (p : Place) (line : List ℕ) (s : Blocks) → FineAt p s → FineIf (place_step p line s)
place_fine (at_place.Outside first) line s fine = outside_fine first line s
place_fine (at_place.Within sign h) line s fine = fine_if (belongs sign.above line) _ _ (fine_if (fits h.indent line) _ _ fine tt) (after_fine (step (held_mark sign h) s) line)

place_ends : (p : Place) (s : Blocks) → FineAt p s → (d : Doc) × (place_end p s ≡ Some d)
place_ends (at_place.Outside first) s fine = (finish s, refl)
place_ends (at_place.Within sign h) s fine = let (x, is) = step_wanted sign.lone (held_text sign.keeps h) s fine in (finish x, ap (option_map finish) is)

-- ---- the first lines that are refused

abbrev Goes : List (List ℕ) → Reader → Type 0
Goes lines r = (x : Reader) × (read_lines lines (Some r) ≡ Some x) × Fine x

abbrev Stops : List (List ℕ) → Reader → ℕ → Type 0
Stops lines r n = (n ≤ length lines) × (read_lines (take n lines) (Some r) ≡ None) × ((m : ℕ) → m < n → Goes (take m lines) r)

stops_here : (line : List ℕ) (lines : List (List ℕ)) (r : Reader) → Fine r → read_step line r ≡ None → Stops (line ∷ lines) r (suc (taken_lines lines (read_step line r)))
stops_here line lines r fine is =
    subst (λ (o : Option Reader). Stops (line ∷ lines) r (suc (taken_lines lines o))) (sym is)
    (omega arith, is, λ m less. first m (omega arith))
  where
    first : (m : ℕ) → m ≡ 0 → Goes (take m (line ∷ lines)) r
    first m none = subst (λ (k : ℕ). Goes (take k (line ∷ lines)) r) (sym none) (r, refl, fine)

goes_later : (m : ℕ) (line : List ℕ) (lines : List (List ℕ)) (r x : Reader) → Fine r → read_step line r ≡ Some x → (n : ℕ) → m < suc n → ((m : ℕ) → m < n → Goes (take m lines) x) → Goes (take m (line ∷ lines)) r
goes_later zero line lines r x fine is n less later = (r, refl, fine)
goes_later (suc m) line lines r x fine is n less later =
    let (y, goes, fine_y) = later m (omega arith) in (y, ap (λ (o : Option Reader). read_lines (take m lines) o) is ∙ goes, fine_y)

stops_at : (o : Option Reader) (line : List ℕ) (lines : List (List ℕ)) (r : Reader) → Fine r → read_step line r ≡ o → FineIf o → read_lines lines o ≡ None
    → ((x : Reader) → Fine x → read_lines lines (Some x) ≡ None → Stops lines x (taken_lines lines (Some x))) → Stops (line ∷ lines) r (suc (taken_lines lines (read_step line r)))
stops_at None line lines r fine is fine_o none more = stops_here line lines r fine is
stops_at (Some x) line lines r fine is fine_o none more =
    let (within_, stops, goes) = more x fine_o none in
    subst (λ (o : Option Reader). Stops (line ∷ lines) r (suc (taken_lines lines o))) (sym is)
    (omega arith, ap (λ (o : Option Reader). read_lines (take (taken_lines lines (Some x)) lines) o) is ∙ stops, λ m less. goes_later m line lines r x fine is (taken_lines lines (Some x)) less goes)

stops_is : (lines : List (List ℕ)) (r : Reader) → Fine r → read_lines lines (Some r) ≡ None → Stops lines r (taken_lines lines (Some r))
stops_is [] r fine none = cc
stops_is (line ∷ lines) r fine none = stops_at (read_step line r) line lines r fine refl (place_fine r.place line r.blocks fine) none (stops_is lines)

-- ---- in the words of the contract

spells_is : (all : List (List ℕ)) → total all (Some first_reader) ≡ option_and_then (λ ms. option_map finish (run (Some Start) ms)) (lays (outside true) all)
spells_is all = lines_are all (outside true) Start tt

pub none_spelled : (all : List (List ℕ)) → read_lines all (Some first_reader) ≡ None → (d : Doc) → SpellsLines all d → ⊥
none_spelled all none d spelled = let same = sym (ap (option_and_then end_of) none) ∙ spells_is all ∙ spells_comes all d spelled in cc

goes_begins : (all : List (List ℕ)) (m : ℕ) → Goes (take m all) first_reader → Begins all m
goes_begins all m (r, goes, fine) =
    let (d, ends) = place_ends r.place r.blocks fine in (d, comes_spells (take m all) d (sym (spells_is (take m all)) ∙ ap (option_and_then end_of) goes ∙ ends))

pub line_is : (all : List (List ℕ)) (n : ℕ) → read_lines all (Some first_reader) ≡ None → n ≡ taken_lines all (Some first_reader) → IsLine all n
line_is all n none is =
    let (within_, stops, goes) = stops_is all first_reader tt none in
    subst (λ (k : ℕ). IsLine all k) (sym is)
    (within_, λ (d, spelled). none_spelled (take (taken_lines all (Some first_reader)) all) stops d spelled, λ m less. goes_begins all m (goes m less))

-- what was read to the end spells its document
pub read_spells : (all : List (List ℕ)) (r : Reader) (d : Doc) → read_lines all (Some first_reader) ≡ Some r → end_of r ≡ Some d → SpellsLines all d
read_spells all r d reads ends = comes_spells all d (sym (spells_is all) ∙ ap (option_and_then end_of) reads ∙ ends)

-- ---- one line more

taken_none : (lines : List (List ℕ)) → taken_lines lines None ≡ 0
taken_none [] = refl
taken_none (line ∷ lines) = refl

line_at : (all : List (List ℕ)) (n : ℕ) (line : List ℕ) → n < length all → line ≡ get_or all n line → drop n all ≡ line ∷ drop (n + 1) all
line_at all n line less is = drop_more all n line less ∙ ap (λ (x : List ℕ). x ∷ drop (n + 1) all) (sym is)

pub step_reads : (all : List (List ℕ)) (n : ℕ) (line : List ℕ) (r x : Reader) → n < length all → line ≡ get_or all n line → read_step line r ≡ Some x
    → read_lines (drop n all) (Some r) ≡ read_lines all (Some first_reader) → read_lines (drop (n + 1) all) (Some x) ≡ read_lines all (Some first_reader)
step_reads all n line r x less at is so_far =
    ap (λ (o : Option Reader). read_lines (drop (n + 1) all) o) (sym is) ∙ ap (λ (l : List (List ℕ)). read_lines l (Some r)) (sym (line_at all n line less at)) ∙ so_far

pub step_takes : (all : List (List ℕ)) (n : ℕ) (line : List ℕ) (r x : Reader) → n < length all → line ≡ get_or all n line → read_step line r ≡ Some x
    → n + taken_lines (drop n all) (Some r) ≡ taken_lines all (Some first_reader) → (n + 1) + taken_lines (drop (n + 1) all) (Some x) ≡ taken_lines all (Some first_reader)
step_takes all n line r x less at is so_far =
    let here : taken_lines (drop n all) (Some r) ≡ suc (taken_lines (drop (n + 1) all) (Some x)) =
    ap (λ (l : List (List ℕ)). taken_lines l (Some r)) (line_at all n line less at) ∙ ap (λ (o : Option Reader). suc (taken_lines (drop (n + 1) all) o)) is in
    omega arith

pub fault_is : (all : List (List ℕ)) (n : ℕ) (line : List ℕ) (r : Reader) (kind : FaultKind) → n < length all → line ≡ get_or all n line → read_step line r ≡ None
    → read_lines (drop n all) (Some r) ≡ read_lines all (Some first_reader) → n + taken_lines (drop n all) (Some r) ≡ taken_lines all (Some first_reader) → kind ≡ kind_of line
    → ((d : Doc) → SpellsLines all d → ⊥) × IsLine all (n + 1) × (option_map kind_of (slice_get all (n + 1 - 1)) ≡ Some kind)
fault_is all n line r kind less at is reads takes kinds =
    let front = line_at all n line less at in
    let none : read_lines all (Some first_reader) ≡ None =
    sym reads ∙ ap (λ (l : List (List ℕ)). read_lines l (Some r)) front ∙ ap (λ (o : Option Reader). read_lines (drop (n + 1) all) o) is ∙ lines_none (drop (n + 1) all) in
    let here : taken_lines (drop n all) (Some r) ≡ suc (taken_lines (drop (n + 1) all) None) =
    ap (λ (l : List (List ℕ)). taken_lines l (Some r)) front ∙ ap (λ (o : Option Reader). suc (taken_lines (drop (n + 1) all) o)) is in
    let count : n + 1 ≡ taken_lines all (Some first_reader) = omega (arith, taken_none (drop (n + 1) all)) in
    let same : n + 1 - 1 ≡ n = omega arith in (
      none_spelled all none,
      line_is all (n + 1) none count,
      ap (λ (k : ℕ). option_map kind_of (slice_get all k)) same ∙ ap (option_map kind_of) (slice_get-get_or all n line less ∙ ap Some (sym at)) ∙ ap Some (sym kinds),
    )

pub end_is : (all : List (List ℕ)) (n : ℕ) (r : Reader) (d : Doc) → length all ≤ n → read_lines (drop n all) (Some r) ≡ read_lines all (Some first_reader) → end_of r ≡ Some d → SpellsLines all d
end_is all n r d over reads ends = read_spells all r d (sym reads ∙ ap (λ (l : List (List ℕ)). read_lines l (Some r)) (drop_all n all over)) ends

-- what can end goes on to what can end
pub step_fine : (line : List ℕ) (r x : Reader) → Fine r → read_step line r ≡ Some x → Fine x
step_fine line r x fine is = subst (λ (o : Option Reader). FineIf o) is (place_fine r.place line r.blocks fine)

pub never_none : (r : Reader) (o : Option Doc) → Fine r → o ≡ end_of r → o ≡ None → ⊥
never_none r o fine is none = let (d, ends) = place_ends r.place r.blocks fine in cc
