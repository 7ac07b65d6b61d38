-- The machine goes along with each text that spells a query, to that query.
use Rattle.std.proofs.Common.{◌≡◌, ◌==◌, ◌||◌, ◌++◌, ◌-◌, ℕ, suc, Bool, true, false, List, [], ◌∷◌, Option, Some, codes, refl, ap, sym, subst, inl, inr, ◌∙◌, append_assoc, arith}
use Rattle.std.proofs.lemmas.Bool.{and_parts}
use Rattle.std.proofs.lemmas.Bool.Decides.{eqb_tells}
use Rattle.std.proofs.lemmas.List.{append-nil}
use Rattle.std.specs.List.{list_all}
use Rattle.query_text.specs.Signs.{is_space}
use Rattle.query_text.specs.Query.{Ors, no_ors, then_ands, Ands, no_ands, then_item, Item, term, negated, group, ands_of, ors_with}
use Rattle.query_text.specs.Grammar.{Spells, SpellsItem, SpellsAnds, SpellsMoreAnds, SpellsOrs, SpellsMoreOrs, is_gap, is_open, is_closed, begins_open, ends_closed}
use Rattle.query_text.specs.Machine.{new_frame, pushed, ready, next_or, deeper, whole, at, due_step, gap_step, after_step, naming_step, step, start}
use Rattle.query_text.specs.Frames.{Frame}
use Rattle.query_text.specs.declared.frames.Mode.TheVariants.{Due, Naming, After, AndEnd, OrEnd}
use Rattle.query_text.specs.declared.frames.Config.{Config}
use Rattle.query_text.proofs.Choices.{or_true, gap_spaces}
use Rattle.query_text.proofs.Sound.{ors_with_more}
use Rattle.query_text.proofs.TermRuns.{run, ends_well, term_runs}

-- a group of which no NOT stands before the next item
abbrev clean : ℕ → List Ands → List Item → Frame
clean room ors ands = record { room = room; ors = ors; ands = ands; nots = 0; left = room }

abbrev here_due : Frame → List Frame → Option Config
here_due f below = Some (at Due f below)

abbrev here_after : Frame → List Frame → Option Config
here_after f below = Some (at After f below)

-- the items that AND joins, one by one
abbrev items_of : Ands → List Item
items_of no_ands = []
items_of (then_item x more) = x ∷ items_of more

ands_of-items : (a : Ands) → ands_of (items_of a) ≡ a
ands_of-items no_ands = refl
ands_of-items (then_item x more) = ap (λ r. then_item x r) (ands_of-items more)

-- white space is passed over
skip_due : (gap s : List ℕ) (f : Frame) (below : List Frame) → list_all is_space gap ≡ true → run (here_due f below) (gap ++ s) ≡ run (here_due f below) s
skip_due [] s f below blank = refl
skip_due (b ∷ gap) s f below blank =
    let parts = and_parts (is_space b) (list_all is_space gap) blank in
    let one : due_step f below b ≡ here_due f below = rw parts.0 refl in
    ap (λ o. run o (gap ++ s)) one ∙ skip_due gap s f below parts.1

skip_after : (gap s : List ℕ) (f : Frame) (below : List Frame) → list_all is_space gap ≡ true → run (here_after f below) (gap ++ s) ≡ run (here_after f below) s
skip_after [] s f below blank = refl
skip_after (b ∷ gap) s f below blank =
    let parts = and_parts (is_space b) (list_all is_space gap) blank in
    let one : after_step f below b ≡ here_after f below = rw parts.0 refl in
    ap (λ o. run o (gap ++ s)) one ∙ skip_after gap s f below parts.1

skip_end : (gap : List ℕ) (f : Frame) → list_all is_space gap ≡ true → run (here_after f []) gap ≡ Some (whole f)
skip_end [] f blank = refl
skip_end (b ∷ gap) f blank =
    let parts = and_parts (is_space b) (list_all is_space gap) blank in
    let one : after_step f [] b ≡ here_after f [] = rw parts.0 refl in
    ap (λ o. run o gap) one ∙ skip_end gap f parts.1

-- what an open item begins with
item_opens : (x : Item) (room : ℕ) (back : List ℕ) → SpellsItem x room back → is_open x ≡ true → (more : List ℕ) × (back ≡ 40 ∷ more)
item_opens (term t) room back spelled is = cc
item_opens (negated x) room back spelled is = cc
item_opens (group q) room back (less, gap, inner, end, left, eq, blank, blank2, spelled) is = (gap ++ (inner ++ (end ++ 41 ∷ [])), eq)

ands_opens : (a : Ands) (room : ℕ) (back : List ℕ) → SpellsAnds a room back → begins_open a ≡ true → (more : List ℕ) × (back ≡ 40 ∷ more)
ands_opens no_ands room back spelled is = absurd spelled
ands_opens (then_item x more) room back (front, rest, eq, spelled, ands) is =
    let (first, same) = item_opens x room front spelled is in (first ++ rest, eq ∙ ap (λ r. r ++ rest) same)

-- the gap behind an operator
gap_runs : (c : Config) (g : Frame) (below : List Frame) → ((b : ℕ) → (is_space b || b == 40) ≡ true → step c b ≡ due_step g below b)
    → (open_next : Bool) (gap back u : List ℕ) → is_gap open_next gap ≡ true → (open_next ≡ true → (more : List ℕ) × (back ≡ 40 ∷ more))
    → run (Some c) (gap ++ (back ++ u)) ≡ run (here_due g below) (back ++ u)
gap_runs c g below goes open_next [] back u fits opens =
    let (more, eq) = opens fits in
    ap (λ r. run (Some c) (r ++ u)) eq ∙ ap (λ o. run o (more ++ u)) (goes 40 refl) ∙ sym (ap (λ r. run (here_due g below) (r ++ u)) eq)
gap_runs c g below goes open_next (b ∷ gap) back u fits opens =
    let parts = and_parts (is_space b) (list_all is_space gap) fits in
    let one : due_step g below b ≡ here_due g below = rw parts.0 refl in
    ap (λ o. run o (gap ++ (back ++ u))) (goes b (or_true (is_space b) (b == 40) parts.0) ∙ one) ∙ skip_due gap (back ++ u) g below parts.1

-- what follows an item lets it end
or_right : (a b : Bool) → b ≡ true → (a || b) ≡ true
or_right true b is = refl
or_right false b is = is

follows : Bool → List ℕ → Type 0
follows closed u = (closed || ends_well u) ≡ true

follow_gap : (closed : Bool) (before rest : List ℕ) → is_gap closed before ≡ true → (closed || ends_well (before ++ rest)) ≡ true
follow_gap closed [] rest fits = or_true closed (ends_well rest) fits
follow_gap closed (b ∷ before) rest fits =
    or_right closed (is_space b || b == 41) (or_true (is_space b) (b == 41) (and_parts (is_space b) (list_all is_space before) fits).0)

follow_text : (closed : Bool) (s before rest u : List ℕ) → s ≡ before ++ rest → is_gap closed before ≡ true → (closed || ends_well (s ++ u)) ≡ true
follow_text closed s before rest u eq fits =
    ap (λ r. closed || ends_well (r ++ u)) eq ∙ ap (λ r. closed || ends_well r) (append_assoc before rest u) ∙ follow_gap closed before (rest ++ u) fits

more_ands_follow : (more : Ands) (room : ℕ) (closed : Bool) (s u : List ℕ) → SpellsMoreAnds more room closed s → (ends_closed closed more || ends_well u) ≡ true → (closed || ends_well (s ++ u)) ≡ true
more_ands_follow no_ands room closed s u none well = ap (λ r. closed || ends_well (r ++ u)) none ∙ well
more_ands_follow (then_item x more) room closed s u (before, behind, front, back, eq, fits, fits2, spelled, ands) well =
    follow_text closed s before (codes "AND" ++ (behind ++ (front ++ back))) u eq fits

more_ors_follow : (more : Ors) (room : ℕ) (closed : Bool) (s u : List ℕ) → SpellsMoreOrs more room closed s → ends_well u ≡ true → (closed || ends_well (s ++ u)) ≡ true
more_ors_follow no_ors room closed s u none well = ap (λ r. closed || ends_well (r ++ u)) none ∙ or_right closed (ends_well u) well
more_ors_follow (then_ands a more) room closed s u (before, behind, front, back, eq, fits, fits2, spelled, ors) well =
    follow_text closed s before (codes "OR" ++ (behind ++ (front ++ back))) u eq fits

spaces_end_well : (end s : List ℕ) → list_all is_space end ≡ true → ends_well s ≡ true → ends_well (end ++ s) ≡ true
spaces_end_well [] s blank well = well
spaces_end_well (b ∷ end) s blank well = or_true (is_space b) (b == 41) (and_parts (is_space b) (list_all is_space end) blank).0

-- texts, taken together otherwise
group_text : (gap inner end u : List ℕ) → (gap ++ (inner ++ (end ++ 41 ∷ []))) ++ u ≡ gap ++ (inner ++ (end ++ 41 ∷ u))
group_text gap inner end u = simp append_assoc

operator_text : (before word behind front back u : List ℕ) → (before ++ (word ++ (behind ++ (front ++ back)))) ++ u ≡ before ++ (word ++ (behind ++ (front ++ (back ++ u))))
operator_text before word behind front back u = simp append_assoc

not_room : (f : Frame) (less : ℕ) → f.left ≡ suc less → ((f.left == 0) ≡ false) × (f.left - 1 ≡ less)
not_room f less is = (elim (eqb_tells f.left 0) [ inl w ↦ let same = w.1 in absurd (omega arith) | inr w ↦ w.0 ], omega arith)

mutual
  item_runs : (x : Item) (s u : List ℕ) (f : Frame) (below : List Frame) → SpellsItem x f.left s → (is_closed x || ends_well u) ≡ true
      → run (here_due f below) (s ++ u) ≡ run (here_after (pushed x f) below) u
  item_runs (term t) s u f below spelled well = term_runs t s u f below spelled well
  item_runs (negated x) s u f below (less, gap, back, room, eq, fits, spelled) well =
      let rooms = not_room f less room in
      let goes : (b : ℕ) → (is_space b || b == 40) ≡ true → naming_step (codes "NOT") f below b ≡ due_step (deeper f) below b =
      λ b may. rw (may, rooms.0) refl in
      let deep : SpellsItem x (f.left - 1) back = subst (λ n. SpellsItem x n back) (sym rooms.1) spelled in
      ap (λ r. run (here_due f below) (r ++ u)) eq
      ∙ ap (λ r. run (Some (at (Naming (codes "NOT")) f below)) r) (append_assoc gap back u)
      ∙ gap_runs (at (Naming (codes "NOT")) f below) (deeper f) below goes (is_open x) gap back u fits (item_opens x less back spelled)
      ∙ item_runs x back u (deeper f) below deep well
  item_runs (group q) s u f below (less, gap, inner, end, room, eq, blank, blank2, spelled) well =
      let rooms = not_room f less room in
      let one : due_step f below 40 ≡ here_due (new_frame less) (f ∷ below) = rw (rooms.0, rooms.1) refl in
      let (ors, ands, runs, is) = ors_runs q less inner (end ++ 41 ∷ u) (f ∷ below) spelled (spaces_end_well end (41 ∷ u) blank2 refl) in
      ap (λ r. run (here_due f below) (r ++ u)) eq
      ∙ ap (λ o. run o ((gap ++ (inner ++ (end ++ 41 ∷ []))) ++ u)) one
      ∙ ap (λ r. run (here_due (new_frame less) (f ∷ below)) r) (group_text gap inner end u)
      ∙ skip_due gap (inner ++ (end ++ 41 ∷ u)) (new_frame less) (f ∷ below) blank
      ∙ runs
      ∙ skip_after end (41 ∷ u) (clean less ors ands) (f ∷ below) blank2
      ∙ ap (λ p. run (here_after (pushed (group p) f) below) u) is

  ands_runs : (a : Ands) (room : ℕ) (ors : List Ands) (s u : List ℕ) (below : List Frame) → SpellsAnds a room s → (ends_closed false a || ends_well u) ≡ true
      → run (here_due (clean room ors []) below) (s ++ u) ≡ run (here_after (clean room ors (items_of a)) below) u
  ands_runs no_ands room ors s u below spelled well = absurd spelled
  ands_runs (then_item x more) room ors s u below (front, back, eq, spelled, ands) well =
      ap (λ r. run (here_due (clean room ors []) below) (r ++ u)) eq
      ∙ ap (λ r. run (here_due (clean room ors []) below) r) (append_assoc front back u)
      ∙ item_runs x front (back ++ u) (clean room ors []) below spelled (more_ands_follow more room (is_closed x) back u ands well)
      ∙ more_ands_runs more room ors (x ∷ []) (is_closed x) back u below ands well

  more_ands_runs : (more : Ands) (room : ℕ) (ors : List Ands) (ands : List Item) (closed : Bool) (s u : List ℕ) (below : List Frame) → SpellsMoreAnds more room closed s
      → (ends_closed closed more || ends_well u) ≡ true
      → run (here_after (clean room ors ands) below) (s ++ u) ≡ run (here_after (clean room ors (ands ++ items_of more)) below) u
  more_ands_runs no_ands room ors ands closed s u below none well =
      ap (λ r. run (here_after (clean room ors ands) below) (r ++ u)) none
      ∙ ap (λ v. run (here_after (clean room ors v) below) u) (sym (append-nil ands))
  more_ands_runs (then_item x more) room ors ands closed s u below (before, behind, front, back, eq, fits, fits2, spelled, more_ands) well =
      let f = clean room ors ands in
      let goes : (b : ℕ) → (is_space b || b == 40) ≡ true → gap_step (ready (clean room ors ands)) below b ≡ due_step (clean room ors ands) below b = λ b may. rw may refl in
      ap (λ r. run (here_after (clean room ors ands) below) (r ++ u)) eq
      ∙ ap (λ r. run (here_after (clean room ors ands) below) r) (operator_text before (codes "AND") behind front back u)
      ∙ skip_after before (codes "AND" ++ (behind ++ (front ++ (back ++ u)))) (clean room ors ands) below (gap_spaces closed before fits)
      ∙ gap_runs (at AndEnd (clean room ors ands) below) (clean room ors ands) below goes (is_open x) behind front (back ++ u) fits2 (item_opens x room front spelled)
      ∙ item_runs x front (back ++ u) (clean room ors ands) below spelled (more_ands_follow more room (is_closed x) back u more_ands well)
      ∙ more_ands_runs more room ors (ands ++ x ∷ []) (is_closed x) back u below more_ands well
      ∙ ap (λ v. run (here_after (clean room ors v) below) u) (append_assoc ands (x ∷ []) (items_of more))

  ors_runs : (q : Ors) (room : ℕ) (s u : List ℕ) (below : List Frame) → SpellsOrs q room s → ends_well u ≡ true
      → (ors : List Ands) × (ands : List Item)
      × (run (here_due (clean room [] []) below) (s ++ u) ≡ run (here_after (clean room ors ands) below) u)
      × (whole (clean room ors ands) ≡ q)
  ors_runs no_ors room s u below spelled well = absurd spelled
  ors_runs (then_ands a more) room s u below (front, back, eq, spelled, more_ors) well =
      let (ors, ands, runs, is) = more_ors_runs more room [] (items_of a) (ends_closed false a) back u below more_ors well in (
        ors,
        ands,
        ap (λ r. run (here_due (clean room [] []) below) (r ++ u)) eq
            ∙ ap (λ r. run (here_due (clean room [] []) below) r) (append_assoc front back u)
            ∙ ands_runs a room [] front (back ++ u) below spelled (more_ors_follow more room (ends_closed false a) back u more_ors well)
            ∙ runs,
        is ∙ ap (λ b. then_ands b more) (ands_of-items a),
      )

  more_ors_runs : (more : Ors) (room : ℕ) (ors : List Ands) (ands : List Item) (closed : Bool) (s u : List ℕ) (below : List Frame) → SpellsMoreOrs more room closed s → ends_well u ≡ true
      → (ors2 : List Ands) × (ands2 : List Item)
      × (run (here_after (clean room ors ands) below) (s ++ u) ≡ run (here_after (clean room ors2 ands2) below) u)
      × (whole (clean room ors2 ands2) ≡ ors_with ors (then_ands (ands_of ands) more))
  more_ors_runs no_ors room ors ands closed s u below none well = (ors, ands, ap (λ r. run (here_after (clean room ors ands) below) (r ++ u)) none, refl)
  more_ors_runs (then_ands a more) room ors ands closed s u below (before, behind, front, back, eq, fits, fits2, spelled, more_ors) well =
      let goes : (b : ℕ) → (is_space b || b == 40) ≡ true → gap_step (next_or (clean room ors ands)) below b ≡ due_step (clean room (ors ++ ands_of ands ∷ []) []) below b = λ b may. rw may refl in
      let (ors2, ands2, runs, is) = more_ors_runs more room (ors ++ ands_of ands ∷ []) (items_of a) (ends_closed false a) back u below more_ors well in (
        ors2,
        ands2,
        ap (λ r. run (here_after (clean room ors ands) below) (r ++ u)) eq
            ∙ ap (λ r. run (here_after (clean room ors ands) below) r) (operator_text before (codes "OR") behind front back u)
            ∙ skip_after before (codes "OR" ++ (behind ++ (front ++ (back ++ u)))) (clean room ors ands) below (gap_spaces closed before fits)
            ∙ gap_runs (at OrEnd (clean room ors ands) below) (clean room (ors ++ ands_of ands ∷ []) []) below goes (begins_open a) behind front (back ++ u) fits2 (ands_opens a room front spelled)
            ∙ ands_runs a room (ors ++ ands_of ands ∷ []) front (back ++ u) below spelled (more_ors_follow more room (ends_closed false a) back u more_ors well)
            ∙ runs,
        is ∙ ap (λ b. ors_with (ors ++ ands_of ands ∷ []) (then_ands b more)) (ands_of-items a) ∙ ors_with_more ors (ands_of ands) (then_ands a more),
      )

-- each text that spells a query is gone along with, to that query
pub spelled_runs : (text : List ℕ) (q : Ors) → Spells text q → run (Some start) text ≡ Some q
spelled_runs text q (gap, inner, end, eq, blank, blank2, spelled) =
    let well : ends_well end ≡ true = ap ends_well (sym (append-nil end)) ∙ spaces_end_well end [] blank2 refl in
    let (ors, ands, runs, is) = ors_runs q 100 inner end [] spelled well in
    ap (λ r. run (Some start) r) eq
    ∙ skip_due gap (inner ++ end) (clean 100 [] []) [] blank
    ∙ runs
    ∙ skip_end end (clean 100 ors ands) blank2
    ∙ ap Some is

pub one_query : (text : List ℕ) (p q : Ors) → Spells text p → Spells text q → p ≡ q
one_query text p q spells_p spells_q =
    let one = spelled_runs text p spells_p in
    let other = spelled_runs text q spells_q in
    cc
