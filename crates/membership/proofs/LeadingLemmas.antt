-- How a square comes to have which place leads to which.
use Rattle.std.proofs.Common.{◌≡◌, ◌⊎◌, inl, inr, ◌||◌, ◌&&◌, ◌+◌, ◌*◌, ◌<◌, Bool, true, false, ℕ, List, [], ◌∷◌, ◌++◌, length, set, get_or, eqb, ltb, refl, sym, ap, subst, ◌∙◌, true≢false, arith, get_or-set_same, get_or-set_other, length-append, take, drop, drop_of_length-le, take_all, append-nil, le_of_eq}
use Rattle.std.proofs.lemmas.Bool.{cases_eq, cases_lt, or_cases, or_left, or_right, and_from, and_parts, and_left, lt-ltb, le-ltb, eq-eqb, ne_eqb}
use Rattle.std.proofs.lemmas.Nat.{mul-add-lt, same_from_place}
use Rattle.std.proofs.lemmas.List.{get_or_append_left}
use Rattle.std.proofs.Math.Seq.{get_or-append_seam}
use Rattle.membership.specs.Leading.{at, Leads, at_once, by_way_of, IsLeading, IsSquare, TellsLeading, Listing, lists_at, Notes}

module _ (count : ℕ) where
  -- who leads to one that leads on leads on
  pub Leads-onward : (lists : ℕ → ℕ → Bool) (from mid to : ℕ) → Leads count lists from mid → Leads count lists mid to → Leads count lists from to
  Leads-onward lists from mid to (at_once f m is) rest = by_way_of f m is rest
  Leads-onward lists from mid to (by_way_of {mid = next} f n is leads) rest = by_way_of f n is (Leads-onward lists next mid to leads rest)

  -- by another relation that has as much
  pub Leads-same : (lists more : ℕ → ℕ → Bool) → ((from to : ℕ) → from < count → to < count → lists from to ≡ true → more from to ≡ true)
      → (from to : ℕ) → Leads count lists from to → Leads count more from to
  Leads-same lists more same from to (at_once f t is) = at_once f t (same from to f t is)
  Leads-same lists more same from to (by_way_of {mid = mid} f m is leads) = by_way_of f m (same from mid f m is) (Leads-same lists more same mid to leads)

  -- who leads to whom is the same where the lists are
  pub IsLeading-same : (lists others leads : ℕ → ℕ → Bool) → ((from to : ℕ) → from < count → to < count → lists from to ≡ others from to)
      → IsLeading count lists leads → IsLeading count others leads
  IsLeading-same lists others leads same is = record {
    sound = λ from to f t h. Leads-same lists others (λ a b a_in b_in a_lists. sym (same a b a_in b_in) ∙ a_lists) from to (is.sound from to f t h);
    listed = λ from to f t h. is.listed from to f t (same from to f t ∙ h);
    onward = is.onward;
  }

  -- nobody leads anywhere where nobody lists anybody
  pub IsLeading-none : (lists leads : ℕ → ℕ → Bool) → ((from to : ℕ) → lists from to ≡ false) → ((from to : ℕ) → leads from to ≡ false) → IsLeading count lists leads
  IsLeading-none lists leads no_lists no_leads = record {
    sound = λ from to f t h. absurd (true≢false (sym h ∙ no_leads from to));
    listed = λ from to f t h. absurd (true≢false (sym h ∙ no_lists from to));
    onward = λ from mid to f m t h k. absurd (true≢false (sym h ∙ no_leads from mid));
  }

  -- what has been worked out when so many places have been gone through
  pub record GoneThrough (lists : ℕ → ℕ → Bool) (places : ℕ) (leads : ℕ → ℕ → Bool) : Type 0 where
    pub sound : (from to : ℕ) → from < count → to < count → leads from to ≡ true → Leads count lists from to
    pub listed : (from to : ℕ) → from < count → to < count → lists from to ≡ true → leads from to ≡ true
    pub onward : (from mid to : ℕ) → from < count → mid < count → to < count → mid < places → leads from mid ≡ true → leads mid to ≡ true → leads from to ≡ true

  pub GoneThrough-none : (lists : ℕ → ℕ → Bool) → GoneThrough lists 0 lists
  GoneThrough-none lists = record {
    sound = λ from to f t h. at_once f t h;
    listed = λ from to f t h. h;
    onward = λ from mid to f m t none h k. absurd (omega (arith, none));
  }

  pub GoneThrough-all : (lists leads : ℕ → ℕ → Bool) → GoneThrough lists count leads → IsLeading count lists leads
  GoneThrough-all lists leads gone = record {
    sound = gone.sound;
    listed = gone.listed;
    onward = λ from mid to f m t. gone.onward from mid to f m t m;
  }

  -- one place more
  module _ (lists : ℕ → ℕ → Bool) (k : ℕ) (before after : ℕ → ℕ → Bool) (within : k < count)
      (step : (from to : ℕ) → from < count → to < count → after from to ≡ (before from to || (before from k && before k to))) where
    -- what leads now did before, or by way of the place
    cases : (from to : ℕ) → from < count → to < count → after from to ≡ true → (before from to ≡ true) ⊎ ((before from k ≡ true) × (before k to ≡ true))
    cases from to f t h =
        elim (or_cases (before from to) (before from k && before k to) (sym (step from to f t) ∙ h)) [
          | inl was ↦ inl was
          | inr by ↦ inr (and_parts (before from k) (before k to) by)
        ]

    kept : (from to : ℕ) → from < count → to < count → before from to ≡ true → after from to ≡ true
    kept from to f t h = step from to f t ∙ or_left (before from to) (before from k && before k to) h

    joined : (from to : ℕ) → from < count → to < count → before from k ≡ true → before k to ≡ true → after from to ≡ true
    joined from to f t h g = step from to f t ∙ or_right (before from to) (before from k && before k to) (and_from (before from k) (before k to) h g)

    pub GoneThrough-more : GoneThrough lists k before → GoneThrough lists (k + 1) after
    GoneThrough-more gone = record {
      sound = λ from to f t h. elim (cases from to f t h) [
        | inl was ↦ gone.sound from to f t was
        | inr by ↦ Leads-onward lists from k to (gone.sound from k f within by.0) (gone.sound k to within t by.1)
      ];
      listed = λ from to f t h. kept from to f t (gone.listed from to f t h);
      onward = λ from mid to f m t below h g. onward from mid to f m t (elim (cases_eq mid k) [ inl same ↦ inr same | inr apart ↦ inl (omega (arith, below, apart)) ]) h g;
    }
      where
        -- to the place and from it
        to_it : (from : ℕ) → from < count → after from k ≡ true → before from k ≡ true
        to_it from f h = elim (cases from k f within h) [ inl was ↦ was | inr by ↦ by.0 ]

        from_it : (to : ℕ) → to < count → after k to ≡ true → before k to ≡ true
        from_it to t h = elim (cases k to within t h) [ inl was ↦ was | inr by ↦ by.1 ]

        through_it : (from to : ℕ) → from < count → to < count → after from k ≡ true → after k to ≡ true → after from to ≡ true
        through_it from to f t h g = joined from to f t (to_it from f h) (from_it to t g)

        onward : (from mid to : ℕ) → from < count → mid < count → to < count → (mid < k) ⊎ (mid ≡ k) → after from mid ≡ true → after mid to ≡ true → after from to ≡ true
        onward from mid to f m t (inr same) h g =
            through_it from to f t (subst (λ n. after from n ≡ true) same h) (subst (λ n. after n to ≡ true) same g)
        onward from mid to f m t (inl below) h g =
            elim (cases from mid f m h) [
              | inl a ↦ elim (cases mid to m t g) [
                | inl b ↦ kept from to f t (gone.onward from mid to f m t below a b)
                | inr b ↦ joined from to f t (gone.onward from mid k f m within below a b.0) b.1
              ]
              | inr a ↦ elim (cases mid to m t g) [
                | inl b ↦ joined from to f t a.0 (gone.onward k mid to within m t below a.1 b)
                | inr b ↦ joined from to f t a.0 b.1
              ]
            ]

-- one cell of a square is written
module _ (count : ℕ) (cells : List Bool) (from to : ℕ) (square : length cells ≡ count * count) (from_within : from < count) (to_within : to < count) where
  at-written_same : at count (set cells (from * count + to) true) from to ≡ true
  at-written_same = get_or-set_same cells (from * count + to) true false (subst (λ n. from * count + to < n) (sym square) (mul-add-lt from count to count from_within to_within))

  at-written_other : (row column : ℕ) → row < count → column < count → ((row ≡ from) → (column ≡ to) → ⊥) → at count (set cells (from * count + to) true) row column ≡ at count cells row column
  at-written_other row column r c apart =
      get_or-set_other cells (from * count + to) (row * count + column) true false
      (λ same. let parts = same_from_place row column from to count c to_within same in apart parts.0 parts.1)

-- a row, as far as it has been gone along, leads wherever another leads
abbrev pub Led : ℕ → List Bool → ℕ → ℕ → ℕ → List Bool → Type 0
Led count old from through to now =
    (row column : ℕ) → row < count → column < count → at count now row column ≡ (at count old row column || ((eqb row from && ltb column to) && at count old through column))

module _ (count : ℕ) (old : List Bool) (from through to : ℕ) (now : List Bool) (square : length now ≡ count * count)
    (from_within : from < count) (through_within : through < count) (to_within : to < count) (led : Led count old from through to now) where
  or_none : (a b : Bool) → b ≡ false → (a || b) ≡ a
  or_none true b h = refl
  or_none false b h = h

  -- what has still to come hasn't been written
  ahead : (row : ℕ) → row < count → at count now row to ≡ at count old row to
  ahead row r =
      led row to r to_within
      ∙ or_none (at count old row to) _ (and_left (eqb row from && ltb to to) (at count old through to) (behind (eqb row from)))
    where
      behind : (b : Bool) → (b && ltb to to) ≡ false
      behind true = le-ltb to to (omega arith)
      behind false = refl

  -- elsewhere nothing is new
  elsewhere : (row column : ℕ) → ((row ≡ from) → (column ≡ to) → ⊥) → (eqb row from && ltb column (to + 1)) ≡ (eqb row from && ltb column to)
  elsewhere row column apart =
      elim (cases_eq row from) [
        | inr other ↦ and_left (eqb row from) _ (ne_eqb row from other) ∙ sym (and_left (eqb row from) _ (ne_eqb row from other))
        | inl same ↦ ap (λ b. eqb row from && b) (elim (cases_lt column to) [
          | inl before ↦ lt-ltb column (to + 1) (omega (arith, before)) ∙ sym (lt-ltb column to before)
          | inr from_it ↦
              let past : to < column = elim (cases_eq column to) [ inl here ↦ absurd (apart same here) | inr there ↦ omega (arith, from_it, there) ] in
              le-ltb column (to + 1) (omega (arith, past)) ∙ sym (le-ltb column to from_it)
        ])
      ]

  -- here the row has what the other has
  here : (value : Bool) → at count old through to ≡ value → (at count old from to || ((eqb from from && ltb to (to + 1)) && at count old through to)) ≡ (at count old from to || value)
  here value is =
      ap (λ b. at count old from to || (b && at count old through to)) (and_from (eqb from from) (ltb to (to + 1)) (eq-eqb from from refl) (lt-ltb to (to + 1) (omega arith)))
      ∙ ap (λ b. at count old from to || b) is

  pub Led-written : at count now through to ≡ true → Led count old from through (to + 1) (set now (from * count + to) true)
  Led-written is row column r c =
      elim (cases_eq row from) [
        | inl same ↦ elim (cases_eq column to) [
          | inl at_it ↦
              subst (λ n. at count (set now (from * count + to) true) n column ≡ (at count old n column || ((eqb n from && ltb column (to + 1)) && at count old through column))) (sym same)
              (subst (λ m. at count (set now (from * count + to) true) from m ≡ (at count old from m || ((eqb from from && ltb m (to + 1)) && at count old through m))) (sym at_it)
              (at-written_same count now from to square from_within to_within ∙ sym (or_right (at count old from to) true refl) ∙ sym (here true (sym (ahead through through_within) ∙ is))))
          | inr apart ↦ other row column r c (λ _ t. apart t)
        ]
        | inr apart ↦ other row column r c (λ f _. apart f)
      ]
    where
      other : (row column : ℕ) → row < count → column < count → ((row ≡ from) → (column ≡ to) → ⊥)
          → at count (set now (from * count + to) true) row column ≡ (at count old row column || ((eqb row from && ltb column (to + 1)) && at count old through column))
      other row column r c apart =
          at-written_other count now from to square from_within to_within row column r c apart
          ∙ led row column r c
          ∙ ap (λ b. at count old row column || (b && at count old through column)) (sym (elsewhere row column apart))

  pub Led-passed : at count now through to ≡ false → Led count old from through (to + 1) now
  Led-passed is row column r c =
      elim (cases_eq row from) [
        | inl same ↦ elim (cases_eq column to) [
          | inl at_it ↦
              subst (λ n. at count now n column ≡ (at count old n column || ((eqb n from && ltb column (to + 1)) && at count old through column))) (sym same)
              (subst (λ m. at count now from m ≡ (at count old from m || ((eqb from from && ltb m (to + 1)) && at count old through m))) (sym at_it)
              (ahead from from_within ∙ sym (or_none (at count old from to) false refl) ∙ sym (here false (sym (ahead through through_within) ∙ is))))
          | inr apart ↦ other row column r c (λ _ t. apart t)
        ]
        | inr apart ↦ other row column r c (λ f _. apart f)
      ]
    where
      other : (row column : ℕ) → row < count → column < count → ((row ≡ from) → (column ≡ to) → ⊥)
          → at count now row column ≡ (at count old row column || ((eqb row from && ltb column (to + 1)) && at count old through column))
      other row column r c apart =
          led row column r c ∙ ap (λ b. at count old row column || (b && at count old through column)) (sym (elsewhere row column apart))

-- nothing has been gone along
pub Led-none : (count : ℕ) (old : List Bool) (from through : ℕ) → Led count old from through 0 old
Led-none count old from through row column r c = sym (or_no (at count old row column) (eqb row from))
  where
    or_no : (a b : Bool) → (a || ((b && ltb column 0) && at count old through column)) ≡ a
    or_no true b = refl
    or_no false true = ap (λ x. x && at count old through column) (le-ltb column 0 (omega arith))
    or_no false false = refl

-- the whole row has
pub Led-all : (count : ℕ) (old : List Bool) (from through : ℕ) (now : List Bool) → Led count old from through count now
    → (row column : ℕ) → row < count → column < count → at count now row column ≡ (at count old row column || (eqb row from && at count old through column))
Led-all count old from through now led row column r c =
    led row column r c
    ∙ ap (λ b. at count old row column || (b && at count old through column)) (whole (eqb row from))
  where
    whole : (b : Bool) → (b && ltb column count) ≡ b
    whole true = lt-ltb column count c
    whole false = refl

-- places, as far as they have been gone along, that lead to a place lead wherever it leads
abbrev pub Passed : ℕ → List Bool → ℕ → ℕ → List Bool → Type 0
Passed count old through from now =
    (row column : ℕ) → row < count → column < count → at count now row column ≡ (at count old row column || (ltb row from && (at count old row through && at count old through column)))

or_nothing : (a b : Bool) → (a || (false && b)) ≡ a
or_nothing true b = refl
or_nothing false b = refl

-- no place has been gone along
pub Passed-none : (count : ℕ) (old : List Bool) (through : ℕ) → Passed count old through 0 old
Passed-none count old through place column r c =
    sym (or_nothing (at count old place column) (at count old place through && at count old through column))
    ∙ ap (λ b. at count old place column || (b && (at count old place through && at count old through column))) (sym (le-ltb place 0 (omega arith)))

-- all have
pub Passed-all : (count : ℕ) (old : List Bool) (through : ℕ) (now : List Bool) → Passed count old through count now
    → (row column : ℕ) → row < count → column < count → at count now row column ≡ (at count old row column || (at count old row through && at count old through column))
Passed-all count old through now passed row column r c =
    passed row column r c
    ∙ ap (λ b. at count old row column || (b && (at count old row through && at count old through column))) (lt-ltb row count r)

module _ (count : ℕ) (old : List Bool) (through from : ℕ) (now : List Bool) (through_within : through < count) (from_within : from < count) (passed : Passed count old through from now) where
  -- the row of the place is as it was
  its_row : (column : ℕ) → column < count → at count now through column ≡ at count old through column
  its_row column c =
      passed through column through_within c ∙ absorbs (at count old through column) (ltb through from) (at count old through through)
    where
      absorbs : (a b d : Bool) → (a || (b && (d && a))) ≡ a
      absorbs true b d = refl
      absorbs false true true = refl
      absorbs false true false = refl
      absorbs false false d = refl

  -- and so is the row that comes next
  next_row : (column : ℕ) → column < count → at count now from column ≡ at count old from column
  next_row column c =
      passed from column from_within c
      ∙ ap (λ b. at count old from column || (b && (at count old from through && at count old through column))) (le-ltb from from (omega arith))
      ∙ or_nothing (at count old from column) (at count old from through && at count old through column)

  -- other rows stay
  other_row : (row column : ℕ) → row < count → column < count → (row ≡ from → ⊥)
      → at count now row column ≡ (at count old row column || (ltb row (from + 1) && (at count old row through && at count old through column)))
  other_row row column r c apart =
      passed row column r c
      ∙ ap (λ b. at count old row column || (b && (at count old row through && at count old through column))) (elim (cases_lt row from) [
        | inl before ↦ lt-ltb row from before ∙ sym (lt-ltb row (from + 1) (omega (arith, before)))
        | inr from_it ↦ le-ltb row from from_it ∙ sym (le-ltb row (from + 1) (omega (arith, from_it, apart)))
      ])

  -- the row that comes next, by whether it leads to the place
  this_row : (column : ℕ) → (value : Bool) → at count old from through ≡ value
      → (at count old from column || (ltb from (from + 1) && (at count old from through && at count old through column))) ≡ (at count old from column || (value && at count old through column))
  this_row column value is =
      ap (λ b. at count old from column || (b && (at count old from through && at count old through column))) (lt-ltb from (from + 1) (omega arith))
      ∙ ap (λ b. at count old from column || (b && at count old through column)) is

  pub Passed-led : (after : List Bool) → at count now from through ≡ true
      → ((row column : ℕ) → row < count → column < count → at count after row column ≡ (at count now row column || (eqb row from && at count now through column)))
      → Passed count old through (from + 1) after
  Passed-led after is led row column r c =
      elim (cases_eq row from) [
        | inl same ↦
            subst (λ n. at count after n column ≡ (at count old n column || (ltb n (from + 1) && (at count old n through && at count old through column)))) (sym same)
            (led from column from_within c
            ∙ ap (λ b. at count now from column || (b && at count now through column)) (eq-eqb from from refl)
            ∙ (λ i. next_row column c i || its_row column c i)
            ∙ sym (this_row column true (sym (next_row through through_within) ∙ is)))
        | inr apart ↦
            led row column r c
            ∙ ap (λ b. at count now row column || (b && at count now through column)) (ne_eqb row from apart)
            ∙ or_false (at count now row column)
            ∙ other_row row column r c apart
      ]
    where
      or_false : (a : Bool) → (a || false) ≡ a
      or_false true = refl
      or_false false = refl

  pub Passed-by : at count now from through ≡ false → Passed count old through (from + 1) now
  Passed-by is row column r c =
      elim (cases_eq row from) [
        | inl same ↦
            subst (λ n. at count now n column ≡ (at count old n column || (ltb n (from + 1) && (at count old n through && at count old through column)))) (sym same)
            (next_row column c
            ∙ sym (or_nothing (at count old from column) (at count old through column))
            ∙ sym (this_row column false (sym (next_row through through_within) ∙ is)))
        | inr apart ↦ other_row row column r c apart
      ]

-- one more cell
module _ (count : ℕ) (groups : Listing) (from to : ℕ) (cells : List Bool) (value : Bool) (from_within : from < count) (to_within : to < count) where
  pub Notes-more : Notes count groups (from * count + to) cells → value ≡ lists_at groups from to → Notes count groups (from * count + (to + 1)) (cells ++ value ∷ [])
  Notes-more notes is = record {
    len = length-append cells (value ∷ []) ∙ longer (length cells) notes.len;
    lists = λ row column r c below. elim (cases_lt (row * count + column) (from * count + to)) [
      | inl before ↦ get_or_append_left cells (value ∷ []) false (row * count + column) (subst (λ n. row * count + column < n) (sym notes.len) before) ∙ notes.lists row column r c before
      | inr not_before ↦
          let same : row * count + column ≡ from * count + to = omega (arith, below, not_before) in
          let parts = same_from_place row column from to count c to_within same in
          ap (λ n. get_or (cells ++ value ∷ []) n false) (same ∙ sym notes.len)
          ∙ get_or-append_seam cells value [] false
          ∙ is
          ∙ (λ i. lists_at groups (sym parts.0 i) (sym parts.1 i))
    ];
  }
    where
      longer : (n : ℕ) → n ≡ from * count + to → n + length (value ∷ []) ≡ from * count + (to + 1)
      longer n h = omega (arith, h)

pub Notes-none : (count : ℕ) (groups : Listing) (so_many : ℕ) (cells : List Bool) → cells ≡ [] → so_many ≡ 0 → Notes count groups so_many cells
Notes-none count groups so_many cells empty none = record {
  len = ap length empty ∙ sym none;
  lists = λ from to f t below. absurd (omega (arith, below, none));
}

-- as many by another name
pub Notes-same : (count : ℕ) (groups : Listing) (a b : ℕ) (cells : List Bool) → a ≡ b → Notes count groups a cells → Notes count groups b cells
Notes-same count groups a b cells same notes = subst (λ n. Notes count groups n cells) same notes

-- the row that comes next begins where this one ends
pub next_begins : (from count : ℕ) → from * count + count ≡ (from + 1) * count
next_begins from count = omega arith

-- of what groups list it is worked out which leads to which
pub Tells-worked : (count : ℕ) (groups : Listing) (noted cells : List Bool) → Notes count groups (count * count) noted → length cells ≡ length noted → IsLeading count (at count noted) (at count cells) → TellsLeading count groups cells
Tells-worked count groups noted cells notes len is = record {
  square = inr (len ∙ notes.len);
  leading = IsLeading-same count (at count noted) (lists_at groups) (at count cells) (λ from to f t. notes.lists from to f t (mul-add-lt from count to count f t)) is;
}

-- where no group lists another there is nothing to work out
pub Tells-none : (count : ℕ) (groups : Listing) (cells : List Bool) → cells ≡ [] → ((from to : ℕ) → lists_at groups from to ≡ false) → TellsLeading count groups cells
Tells-none count groups cells empty none = record {
  square = inl empty;
  leading = IsLeading-none count (lists_at groups) (at count cells) none (λ from to. ap (λ c. at count c from to) empty);
}

-- a place of a square that isn't empty
pub within_square : (count row column : ℕ) (cells : List Bool) → IsSquare count cells → (cells ≡ [] → ⊥) → row < count → column < count → row * count + column < length cells
within_square count row column cells (inl empty) there r c = absurd (there empty)
within_square count row column cells (inr square) there r c = subst (λ n. row * count + column < n) (sym square) (mul-add-lt row count column count r c)

-- a whole list that is written back
pub put_back : (items now : List Bool) (len : ℕ) → len ≡ length items → length now ≡ length items → take len (now ++ drop (length now) items) ≡ now
put_back items now len is as_long =
    ap (λ rest. take len (now ++ rest)) (drop_of_length-le items (le_of_eq (sym as_long))) ∙ ap (take len) (append-nil now) ∙ take_all len now (le_of_eq (as_long ∙ sym is))
