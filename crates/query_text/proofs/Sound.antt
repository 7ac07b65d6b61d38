-- One byte before what is still to come: what the machine goes along with completes to a query.
use Rattle.std.proofs.Common.{◌≡◌, ◌==◌, ◌||◌, ◌++◌, ◌-◌, ℕ, Bool, true, false, bytes_eq, List, [], ◌∷◌, Option, Some, None, if◌then◌else◌, option_map, codes, refl, ap, ap₂, sym, subst, inl, inr, ◌∙◌, append_assoc}
use Rattle.std.proofs.lemmas.Bool.{eqb-true}
use Rattle.std.proofs.lemmas.List.{append-nil}
use Rattle.query_text.specs.Signs.{is_space, is_field_byte, is_field_start}
use Rattle.query_text.specs.Query.{Ors, no_ors, then_ands, Ands, no_ands, then_item, Item, term, negated, group, ands_of, ands_with, ors_with}
use Rattle.query_text.specs.Grammar.{Spells, SpellsOrs, SpellsTerm, is_gap, is_open}
use Rattle.query_text.specs.Parts.{part_step, ended}
use Rattle.query_text.specs.Machine.{new_frame, pushed, ready, next_or, deeper, whole, at, opened, due_step, gap_step, not_step, close_step, after_step, goes_on, term_step, name_step, naming_step, step_at, step, ending_in, start, steps}
use Rattle.query_text.specs.declared.term.Term.{Term}
use Rattle.query_text.specs.declared.term.Term.TheVariants.{Every, AtField}
use Rattle.query_text.specs.declared.parts.Part.{Part}
use Rattle.query_text.specs.declared.parts.Part.TheVariants as part
use Rattle.query_text.specs.Frames.{Frame}
use Rattle.query_text.specs.declared.frames.Mode.{Mode}
use Rattle.query_text.specs.declared.frames.Mode.TheVariants.{Due, Naming, Within, After, AndN, AndD, AndEnd, OrR, OrEnd}
use Rattle.query_text.specs.declared.frames.Config.{Config}
use Rattle.query_text.proofs.Choices.{Holds, if_some, and_true, left_is, gap_spaces, or_none, bytes_same}
use Rattle.query_text.proofs.Coming.{ToTerm, AfterBy, Rest, ItemBy, spaces, NotBy, TermBy, BehindBy, ComingAt, Coming}
use Rattle.query_text.proofs.TermLemmas.{cons_is, part_goes, term_ends}

pub ands_with_more : (xs : List Item) (x : Item) (ys : Ands) → ands_with (xs ++ x ∷ []) ys ≡ ands_with xs (then_item x ys)
ands_with_more [] x ys = refl
ands_with_more (y ∷ xs) x ys = ap (λ r. then_item y r) (ands_with_more xs x ys)

pub ors_with_more : (parts : List Ands) (a : Ands) (more : Ors) → ors_with (parts ++ a ∷ []) more ≡ ors_with parts (then_ands a more)
ors_with_more [] a more = refl
ors_with_more (b ∷ parts) a more = ap (λ r. then_ands b r) (ors_with_more parts a more)

-- texts, taken together otherwise
three : (g t a r : List ℕ) → g ++ (t ++ (a ++ r)) ≡ (g ++ (t ++ a)) ++ r
three g t a r = simp append_assoc

four : (g t a v r : List ℕ) → g ++ (t ++ (a ++ (v ++ r))) ≡ (g ++ ((t ++ a) ++ v)) ++ r
four g t a v r = simp append_assoc

inside : (g t a v e r : List ℕ) → g ++ (t ++ (a ++ (v ++ (e ++ 41 ∷ r)))) ≡ (g ++ (((t ++ a) ++ v) ++ (e ++ 41 ∷ []))) ++ r
inside g t a v e r = simp append_assoc

-- behind AND, and behind OR
and_goes : (f : Frame) (below : List Frame) (closed : Bool) (s : List ℕ) (q : Ors) → closed ≡ true → BehindBy (codes "ND") (ready f) below s q → AfterBy (Rest below) closed f (65 ∷ s) q
and_goes f below closed s q is (u, eq, (gap, x, t, u2, eq2, fits, spelled, (ys, zs, a, v, w, eq3, ands, ors, rest))) =
    let text : u ≡ (gap ++ (t ++ a)) ++ (v ++ w) = eq2 ∙ ap (λ r. gap ++ (t ++ r)) eq3 ∙ three gap t a (v ++ w) in (
      then_item x ys,
      zs,
      codes "AND" ++ (gap ++ (t ++ a)),
      v,
      w,
      ap (λ r. 65 ∷ r) (eq ∙ ap (λ r. codes "ND" ++ r) text),
      ([], gap, t, a, refl, is, fits, spelled, ands),
      ors,
      subst (λ (joined : Ands). Rest below (ors_with f.ors (then_ands joined zs)) w q) (ands_with_more f.ands x ys) rest,
    )

or_goes : (f : Frame) (below : List Frame) (closed : Bool) (s : List ℕ) (q : Ors) → closed ≡ true → BehindBy (codes "R") (next_or f) below s q → AfterBy (Rest below) closed f (79 ∷ s) q
or_goes f below closed s q is (u, eq, (gap, x, t, u2, eq2, fits, spelled, (ys, zs, a, v, w, eq3, ands, ors, rest))) =
    let text : u ≡ (gap ++ ((t ++ a) ++ v)) ++ w = eq2 ∙ ap (λ r. gap ++ (t ++ r)) eq3 ∙ four gap t a v w in (
      no_ands,
      then_ands (then_item x ys) zs,
      [],
      codes "OR" ++ (gap ++ ((t ++ a) ++ v)),
      w,
      ap (λ r. 79 ∷ r) (eq ∙ ap (λ r. codes "R" ++ r) text),
      refl,
      ([], gap, t ++ a, v, refl, is, fits, (t, a, refl, spelled, ands), ors),
      subst (λ (p : Ors). Rest below p w q) (ors_with_more f.ors (ands_of f.ands) (then_ands (then_item x ys) zs)) rest,
    )

-- white space in front of what is to come behind an item
rest_space : (b : ℕ) (below : List Frame) (inner : Ors) (w : List ℕ) (q : Ors) → is_space b ≡ true → Rest below inner w q → Rest below inner (b ∷ w) q
rest_space b [] inner w q is (blank, same) = (and_true _ _ is blank, same)
rest_space b (f ∷ below) inner w q is (gap, u, eq, blank, after) = (b ∷ gap, u, ap (λ r. b ∷ r) eq, and_true _ _ is blank, after)

after_space : (b : ℕ) (closed : Bool) (f : Frame) (below : List Frame) (s : List ℕ) (q : Ors) → is_space b ≡ true → AfterBy (Rest below) true f s q → AfterBy (Rest below) closed f (b ∷ s) q
after_space b closed f below s q is (then_item x ys, zs, u, v, w, eq, (before, behind, front, back, parts, gap, fits, spelled, ands), ors, rest) = (
  then_item x ys,
  zs,
  b ∷ u,
  v,
  w,
  ap (λ r. b ∷ r) eq,
  (b ∷ before, behind, front, back, ap (λ r. b ∷ r) parts, and_true _ _ is (gap_spaces true before gap), fits, spelled, ands),
  ors,
  rest,
)
after_space b closed f below s q is (no_ands, then_ands a zs, u, v, w, eq, none, (before, behind, front, back, parts, gap, fits, spelled, ors), rest) = (
  no_ands,
  then_ands a zs,
  [],
  b ∷ v,
  w,
  ap (λ r. b ∷ r) (eq ∙ ap (λ r. r ++ (v ++ w)) none),
  refl,
  (b ∷ before, behind, front, back, ap (λ r. b ∷ r) parts, and_true _ _ is (gap_spaces true before gap), fits, spelled, ors),
  rest,
)
after_space b closed f below s q is (no_ands, no_ors, u, v, w, eq, none, none2, rest) =
    (no_ands, no_ors, [], [], b ∷ w, ap (λ r. b ∷ r) (eq ∙ ap₂ (λ r e. r ++ (e ++ w)) none none2), refl, refl, rest_space b below _ w q is rest)

close_goes : (b : ℕ) (closed : Bool) (f : Frame) (below : List Frame) (s : List ℕ) (q : Ors) → (b == 41) ≡ true → Holds (λ c. Coming c s q) (close_step (whole f) below) → AfterBy (Rest below) closed f (b ∷ s) q
close_goes b closed f [] s q is h = absurd h
close_goes b closed f (g ∷ below) s q is h = (no_ands, no_ors, [], [], 41 ∷ s, cons_is 41 b s s is refl, refl, refl, ([], s, refl, refl, h))

closed_is : (c : Bool) → (c || false) ≡ true → c ≡ true
closed_is true is = refl
closed_is false is = is

after_goes : (closed : Bool) (f : Frame) (below : List Frame) (b : ℕ) (s : List ℕ) (q : Ors) → (closed || (is_space b || b == 41)) ≡ true
    → Holds (λ c. Coming c s q) (after_step f below b) → AfterBy (Rest below) closed f (b ∷ s) q
after_goes closed f below b s q may h =
    let P : Config → Type 0 = λ c. Coming c s q in
    let R : Type 0 = AfterBy (Rest below) closed f (b ∷ s) q in
    let closed_at : (k : ℕ) → (is_space k || k == 41) ≡ false → b ≡ k → closed ≡ true =
    λ k apart same. closed_is closed (subst (λ (v : Bool). (closed || v) ≡ true) (ap (λ j. is_space j || j == 41) same ∙ apart) may) in
    if_some P R (is_space b) (Some (at After f below)) (if b == 41 then close_step (whole f) below else (if b == 65 then Some (at AndN f below) else (if b == 79 then Some (at OrR f below) else None))) h
    (λ is k. after_space b closed f below s q is k)
    (λ _ h1. if_some P R (b == 41) (close_step (whole f) below) (if b == 65 then Some (at AndN f below) else (if b == 79 then Some (at OrR f below) else None)) h1
    (λ is k. close_goes b closed f below s q is k)
    (λ _ h2. if_some P R (b == 65) (Some (at AndN f below)) (if b == 79 then Some (at OrR f below) else None) h2
    (λ is k. subst (λ (j : ℕ). AfterBy (Rest below) closed f (j ∷ s) q) (sym (eqb-true b 65 is)) (and_goes f below closed s q (closed_at 65 refl (eqb-true b 65 is)) k))
    (λ _ h3. if_some P R (b == 79) (Some (at OrR f below)) None h3
    (λ is k. subst (λ (j : ℕ). AfterBy (Rest below) closed f (j ∷ s) q) (sym (eqb-true b 79 is)) (or_goes f below closed s q (closed_at 79 refl (eqb-true b 79 is)) k))
    (λ _ k. absurd k))))

-- a group that opens
group_goes : (f : Frame) (below : List Frame) (b : ℕ) (s : List ℕ) (q : Ors) → (b == 40) ≡ true → Holds (λ c. Coming c s q) (opened f below) → ItemBy is_gap f.left f below (b ∷ s) q
group_goes f below b s q is h =
    if_some (λ (c : Config). Coming c s q) (ItemBy is_gap f.left f below (b ∷ s) q) (f.left == 0) None (Some (at Due (new_frame (f.left - 1)) (f ∷ below))) h
    (λ _ k. absurd k)
    (λ room (gap, x, t, u, eq, blank, spelled, (ys, zs, a, v, w, eq2, ands, ors, (gap2, u2, eq3, blank2, after))).
    let text : s ≡ (gap ++ (((t ++ a) ++ v) ++ (gap2 ++ 41 ∷ []))) ++ u2 =
    eq ∙ ap (λ r. gap ++ (t ++ r)) eq2 ∙ ap (λ r. gap ++ (t ++ (a ++ (v ++ r)))) eq3 ∙ inside gap t a v gap2 u2 in (
      [],
      group (then_ands (then_item x ys) zs),
      40 ∷ (gap ++ (((t ++ a) ++ v) ++ (gap2 ++ 41 ∷ []))),
      u2,
      cons_is 40 b s _ is text,
      refl,
      (f.left - 1, gap, (t ++ a) ++ v, gap2, left_is f.left room, refl, blank, blank2, (t ++ a, v, refl, (t, a, refl, spelled, ands), ors)),
      after,
    ))

-- a term that begins
start_term : (x : Part) (f : Frame) (below : List Frame) (b : ℕ) (s : List ℕ) (q : Ors) → ((front : List ℕ) (t : Term) → ToTerm x front t → SpellsTerm t (b ∷ front))
    → TermBy x f below s q → ItemBy spaces f.left f below (b ∷ s) q
start_term x f below b s q spells (t, front, u, eq, to, after) = ([], term t, b ∷ front, u, ap (λ r. b ∷ r) eq, refl, spells front t to, after)

as_term : (t u : Term) (text : List ℕ) → t ≡ u → SpellsTerm u text → SpellsTerm t text
as_term t u text same spelled = subst (λ (v : Term). SpellsTerm v text) (sym same) spelled

every_spells : (b : ℕ) → (b == 42) ≡ true → (front : List ℕ) (t : Term) → ToTerm part.EveryColon front t → SpellsTerm t (b ∷ front)
every_spells b is front t (eq, same) = as_term t Every _ same (cons_is 42 b front _ is eq)

escape_spells : (b : ℕ) → (b == 92) ≡ true → (front : List ℕ) (t : Term) → ToTerm (part.FieldEscape []) front t → SpellsTerm t (b ∷ front)
escape_spells b is front t (c, rest, eq, (g, w, first, value, parts, spelled, to_value, same)) =
    as_term t (AtField (c ∷ g) w) _ same
    (92 ∷ c ∷ first, value, cons_is 92 b front _ is (eq ∙ ap (λ r. c ∷ r) parts), (first, inr refl, spelled), to_value)

field_spells : (b : ℕ) → is_field_start b ≡ true → (front : List ℕ) (t : Term) → ToTerm (part.Field (b ∷ [])) front t → SpellsTerm t (b ∷ front)
field_spells b is front t (g, w, first, value, parts, spelled, to_value, same) =
    as_term t (AtField (b ∷ g) w) _ same
    (b ∷ first, value, ap (λ r. b ∷ r) parts, (first, inl (refl, is), spelled), to_value)

-- a NOT that begins
not_begins : (f : Frame) (below : List Frame) (b : ℕ) (s : List ℕ) (q : Ors) → NotBy (b ∷ []) f below s q → ItemBy spaces f.left f below (b ∷ s) q
not_begins f below b s q (more, u, less, name, eq, room, (gap, x, t, u2, eq2, fits, spelled, after)) =
    let text : b ∷ s ≡ codes "NOT" ++ ((gap ++ t) ++ u2) =
    ap (λ r. b ∷ r) eq ∙ ap (λ r. r ++ u) name ∙ ap (λ r. codes "NOT" ++ r) (eq2 ∙ sym (append_assoc gap t u2)) in
    ([], negated x, codes "NOT" ++ (gap ++ t), u2, text, refl, (less, gap, t, room, refl, fits, spelled), after)

pub widened : (room : ℕ) (f : Frame) (below : List Frame) (s : List ℕ) (q : Ors) → ItemBy is_gap room f below s q → ItemBy spaces room f below s q
widened room f below s q (gap, x, t, u, eq, fits, spelled, after) = (gap, x, t, u, eq, gap_spaces (is_open x) gap fits, spelled, after)

item_space : (f : Frame) (below : List Frame) (b : ℕ) (s : List ℕ) (q : Ors) → is_space b ≡ true → ItemBy spaces f.left f below s q → ItemBy is_gap f.left f below (b ∷ s) q
item_space f below b s q is (gap, x, t, u, eq, blank, spelled, after) = (b ∷ gap, x, t, u, ap (λ r. b ∷ r) eq, and_true _ _ is blank, spelled, after)

-- the choices of a step where an item is due, but for the first
abbrev due4 : Frame → List Frame → ℕ → Option Config
due4 f below b = if is_field_start b then Some (at (Naming (b ∷ [])) f below) else None

abbrev due3 : Frame → List Frame → ℕ → Option Config
due3 f below b = if b == 92 then Some (at (Within (part.FieldEscape [])) f below) else due4 f below b

abbrev due2 : Frame → List Frame → ℕ → Option Config
due2 f below b = if b == 42 then Some (at (Within part.EveryColon) f below) else due3 f below b

abbrev due1 : Frame → List Frame → ℕ → Option Config
due1 f below b = if b == 40 then opened f below else due2 f below b

due_goes : (f : Frame) (below : List Frame) (b : ℕ) (s : List ℕ) (q : Ors) → Holds (λ c. Coming c s q) (due_step f below b) → ItemBy spaces f.left f below (b ∷ s) q
due_goes f below b s q h =
    let P : Config → Type 0 = λ c. Coming c s q in
    let R : Type 0 = ItemBy spaces f.left f below (b ∷ s) q in
    if_some P R (is_space b) (Some (at Due f below)) (due1 f below b) h
    (λ is k. widened f.left f below (b ∷ s) q (item_space f below b s q is k))
    (λ _ h1. if_some P R (b == 40) (opened f below) (due2 f below b) h1
    (λ is k. widened f.left f below (b ∷ s) q (group_goes f below b s q is k))
    (λ _ h2. if_some P R (b == 42) (Some (at (Within part.EveryColon) f below)) (due3 f below b) h2
    (λ is k. start_term part.EveryColon f below b s q (every_spells b is) k)
    (λ _ h3. if_some P R (b == 92) (Some (at (Within (part.FieldEscape [])) f below)) (due4 f below b) h3
    (λ is k. start_term (part.FieldEscape []) f below b s q (escape_spells b is) k)
    (λ _ h4. if_some P R (is_field_start b) (Some (at (Naming (b ∷ [])) f below)) None h4
    (λ is k. elim k [
      | inl as_field ↦ start_term (part.Field (b ∷ [])) f below b s q (field_spells b is) as_field
      | inr as_not ↦ not_begins f below b s q as_not
    ])
    (λ _ k. absurd k)))))

gap_goes : (f : Frame) (below : List Frame) (b : ℕ) (s : List ℕ) (q : Ors) → (is_space b || b == 40) ≡ true → Holds (λ c. Coming c s q) (due_step f below b) → ItemBy is_gap f.left f below (b ∷ s) q
gap_goes f below b s q may h =
    let P : Config → Type 0 = λ c. Coming c s q in
    let R : Type 0 = ItemBy is_gap f.left f below (b ∷ s) q in
    if_some P R (is_space b) (Some (at Due f below)) (due1 f below b) h
    (λ is k. item_space f below b s q is k)
    (λ other h1. if_some P R (b == 40) (opened f below) (due2 f below b) h1
    (λ is k. group_goes f below b s q is k)
    (λ another _. or_none (is_space b) (b == 40) R other another may))

behind_gap : (f : Frame) (below : List Frame) (b : ℕ) (s : List ℕ) (q : Ors) → Holds (λ c. Coming c s q) (gap_step f below b) → BehindBy [] f below (b ∷ s) q
behind_gap f below b s q h =
    if_some (λ (c : Config). Coming c s q) (BehindBy [] f below (b ∷ s) q) (is_space b || b == 40) (due_step f below b) None h
    (λ may k. (b ∷ s, refl, gap_goes f below b s q may k))
    (λ _ k. absurd k)

-- one byte more of a term
on_goes : (x : Part) (f : Frame) (below : List Frame) (b : ℕ) (s : List ℕ) (q : Ors) (o : Option Part) → part_step x b ≡ o
    → Holds (λ c. Coming c s q) (option_map (λ next. at (Within next) f below) o) → TermBy x f below (b ∷ s) q
on_goes x f below b s q None is h = absurd h
on_goes x f below b s q (Some y) is (t, front, u, eq, to, after) =
    (t, b ∷ front, u, ap (λ r. b ∷ r) eq, part_goes x b front t (subst (λ (z : Option Part). Holds (λ v. ToTerm v front t) z) (sym is) to), after)

term_goes : (x : Part) (f : Frame) (below : List Frame) (b : ℕ) (s : List ℕ) (q : Ors) (o : Option Term) → ended x ≡ o
    → Holds (λ c. Coming c s q) (term_step o x f below b) → TermBy x f below (b ∷ s) q
term_goes x f below b s q None is h = on_goes x f below b s q (part_step x b) refl h
term_goes x f below b s q (Some t) is h =
    if_some (λ (c : Config). Coming c s q) (TermBy x f below (b ∷ s) q) (is_space b || b == 41) (after_step (pushed (term t) f) below b) (goes_on x f below b) h
    (λ may k. (t, [], b ∷ s, refl, term_ends x t is, after_goes false (pushed (term t) f) below b s q may k))
    (λ _ k. on_goes x f below b s q (part_step x b) refl k)

-- a byte of a field that may be NOT
name_on : (name : List ℕ) (y : Part) (f : Frame) (below : List Frame) (b : ℕ) (s : List ℕ) (q : Ors) → part_step (part.Field name) b ≡ Some y
    → TermBy y f below s q → TermBy (part.Field name) f below (b ∷ s) q
name_on name y f below b s q is h = on_goes (part.Field name) f below b s q (Some y) is h

not_on : (name : List ℕ) (f : Frame) (below : List Frame) (b : ℕ) (s : List ℕ) (q : Ors) → NotBy (name ++ b ∷ []) f below s q → NotBy name f below (b ∷ s) q
not_on name f below b s q (more, u, less, is, eq, room, item) = (b ∷ more, u, less, sym (append_assoc name (b ∷ []) more) ∙ is, ap (λ r. b ∷ r) eq, room, item)

name_goes : (name : List ℕ) (f : Frame) (below : List Frame) (b : ℕ) (s : List ℕ) (q : Ors) → Holds (λ c. Coming c s q) (name_step name f below b)
    → ComingAt (Naming name) f below (b ∷ s) q
name_goes name f below b s q h =
    let P : Config → Type 0 = λ c. Coming c s q in
    let R : Type 0 = ComingAt (Naming name) f below (b ∷ s) q in
    if_some P R (b == 58) (Some (at (Within (part.ValueDue name)) f below)) (if b == 92 then Some (at (Within (part.FieldEscape name)) f below) else (if is_field_byte b then Some (at (Naming (name ++ b ∷ [])) f below) else None)) h
    (λ is k. inl (name_on name (part.ValueDue name) f below b s q (rw is refl) k))
    (λ other h1. if_some P R (b == 92) (Some (at (Within (part.FieldEscape name)) f below)) (if is_field_byte b then Some (at (Naming (name ++ b ∷ [])) f below) else None) h1
    (λ is k. inl (name_on name (part.FieldEscape name) f below b s q (rw (other, is) refl) k))
    (λ another h2. if_some P R (is_field_byte b) (Some (at (Naming (name ++ b ∷ [])) f below)) None h2
    (λ is k. elim k [
      | inl as_field ↦ inl (name_on name (part.Field (name ++ b ∷ [])) f below b s q (rw (other, another, is) refl) as_field)
      | inr as_not ↦ inr (not_on name f below b s q as_not)
    ])
    (λ _ k. absurd k)))

naming_goes : (name : List ℕ) (f : Frame) (below : List Frame) (b : ℕ) (s : List ℕ) (q : Ors) → Holds (λ c. Coming c s q) (naming_step name f below b)
    → ComingAt (Naming name) f below (b ∷ s) q
naming_goes name f below b s q h =
    let P : Config → Type 0 = λ c. Coming c s q in
    let R : Type 0 = ComingAt (Naming name) f below (b ∷ s) q in
    if_some P R (is_space b || b == 40) (if bytes_eq name (codes "NOT") then not_step f below b else None) (name_step name f below b) h
    (λ may h1. if_some P R (bytes_eq name (codes "NOT")) (not_step f below b) None h1
    (λ same h2. if_some P R (f.left == 0) None (due_step (deeper f) below b) h2
    (λ _ k. absurd k)
    (λ room k. inr ([], b ∷ s, f.left - 1, append-nil name ∙ bytes_same name (codes "NOT") same, refl, left_is f.left room, gap_goes (deeper f) below b s q may k)))
    (λ _ k. absurd k))
    (λ _ k. name_goes name f below b s q k)

letter_goes : (k b : ℕ) (letters : List ℕ) (f : Frame) (below : List Frame) (s : List ℕ) (q : Ors) → (b == k) ≡ true → BehindBy letters f below s q → BehindBy (k ∷ letters) f below (b ∷ s) q
letter_goes k b letters f below s q is (u, eq, item) = (u, cons_is k b s _ is eq, item)

pub step_goes : (mode : Mode) (f : Frame) (below : List Frame) (b : ℕ) (s : List ℕ) (q : Ors) → Holds (λ c. Coming c s q) (step_at mode f below b) → ComingAt mode f below (b ∷ s) q
step_goes Due f below b s q h = due_goes f below b s q h
step_goes (Naming name) f below b s q h = naming_goes name f below b s q h
step_goes (Within x) f below b s q h = term_goes x f below b s q (ended x) refl h
step_goes After f below b s q h = after_goes true f below b s q refl h
step_goes AndN f below b s q h =
    if_some (λ (c : Config). Coming c s q) (ComingAt AndN f below (b ∷ s) q) (b == 78) (Some (at AndD f below)) None h
    (λ is k. letter_goes 78 b (codes "D") (ready f) below s q is k) (λ _ k. absurd k)
step_goes AndD f below b s q h =
    if_some (λ (c : Config). Coming c s q) (ComingAt AndD f below (b ∷ s) q) (b == 68) (Some (at AndEnd f below)) None h
    (λ is k. letter_goes 68 b [] (ready f) below s q is k) (λ _ k. absurd k)
step_goes AndEnd f below b s q h = behind_gap (ready f) below b s q h
step_goes OrR f below b s q h =
    if_some (λ (c : Config). Coming c s q) (ComingAt OrR f below (b ∷ s) q) (b == 82) (Some (at OrEnd f below)) None h
    (λ is k. letter_goes 82 b [] (next_or f) below s q is k) (λ _ k. absurd k)
step_goes OrEnd f below b s q h = behind_gap (next_or f) below b s q h

pub steps_none : (text : List ℕ) → steps text None ≡ None
steps_none [] = refl
steps_none (b ∷ text) = steps_none text

steps_from : (front : List ℕ) (b : ℕ) (c : Config) (rest : List ℕ) (q : Ors) (o : Option Config) → step c b ≡ o
    → ((d : Config) → Holds (λ e. Coming e rest q) (steps front (Some d)) → Coming d (front ++ rest) q)
    → Holds (λ d. Coming d rest q) (steps front o) → Coming c (b ∷ (front ++ rest)) q
steps_from front b c rest q None is go h = absurd (subst (λ (z : Option Config). Holds (λ d. Coming d rest q) z) (steps_none front) h)
steps_from front b c rest q (Some d) is go h =
    step_goes c.mode c.frame c.below b (front ++ rest) q (subst (λ (z : Option Config). Holds (λ e. Coming e (front ++ rest) q) z) (sym is) (go d h))

pub steps_go : (front : List ℕ) (c : Config) (rest : List ℕ) (q : Ors) → Holds (λ d. Coming d rest q) (steps front (Some c)) → Coming c (front ++ rest) q
steps_go [] c rest q h = h
steps_go (b ∷ front) c rest q h = steps_from front b c rest q (step c b) refl (λ d k. steps_go front d rest q k) h

-- where the text may end, nothing more is to come
ended_comes : (x : Part) (f : Frame) (q : Ors) (o : Option Term) → ended x ≡ o → option_map (λ t. whole (pushed (term t) f)) o ≡ Some q → ComingAt (Within x) f [] [] q
ended_comes x f q None is same = cc
ended_comes x f q (Some t) is same =
    let here : whole (pushed (term t) f) ≡ q = cc in
    (t, [], [], refl, term_ends x t is, (no_ands, no_ors, [], [], [], refl, refl, refl, (refl, sym here)))

pub ending_comes : (mode : Mode) (f : Frame) (below : List Frame) (q : Ors) → ending_in below mode f ≡ Some q → ComingAt mode f below [] q
ending_comes mode f (g ∷ below) q same = cc
ending_comes Due f [] q same = cc
ending_comes (Naming name) f [] q same = cc
ending_comes (Within x) f [] q same = ended_comes x f q (ended x) refl same
ending_comes After f [] q same = let here : whole f ≡ q = cc in (no_ands, no_ors, [], [], [], refl, refl, refl, (refl, sym here))
ending_comes AndN f [] q same = cc
ending_comes AndD f [] q same = cc
ending_comes AndEnd f [] q same = cc
ending_comes OrR f [] q same = cc
ending_comes OrEnd f [] q same = cc

outer : (g t a v r : List ℕ) → g ++ (t ++ (a ++ (v ++ r))) ≡ g ++ (((t ++ a) ++ v) ++ r)
outer g t a v r = simp append_assoc

-- from the start, what is to come is a text that spells the query
pub start_spells : (text : List ℕ) (q : Ors) → Coming start text q → Spells text q
start_spells text q (gap, x, t, u, eq, blank, spelled, (ys, zs, a, v, w, eq2, ands, ors, (blank2, same))) = (
  gap,
  (t ++ a) ++ v,
  w,
  eq ∙ ap (λ r. gap ++ (t ++ r)) eq2 ∙ outer gap t a v w,
  blank,
  blank2,
  subst (λ (p : Ors). SpellsOrs p 100 ((t ++ a) ++ v)) (sym same) (t ++ a, v, refl, (t, a, refl, spelled, ands), ors),
)
