-- Who belongs to a group, by the test that looks through as many groups as there are.
use Rattle.std.proofs.Common.{◌≡◌, ◌↔◌, ◌⊎◌, inl, inr, ◌+◌, ◌≤◌, Bool, true, false, cond, ℕ, zero, suc, List, [], ◌∷◌, length, Option, Some, None, is_some, IsTrue, bytes_eq, refl, sym, ap, ◌∙◌, true≢false, arith}
use Rattle.std.proofs.lemmas.Bool.{cases_lt, or_cases, or_left, or_right}
use Rattle.std.specs.Cmp.Lexicographic.{bytes_decides}
use Rattle.std.specs.FinMap as finite
use Rattle.std.specs.FinSet as set
use Rattle.std.specs.List.{list_any}
use Rattle.membership.specs.Belonging.{is_member, is_within, BelongsAmong, directly, through, Belongs, groups_within, belongs_through, belongs_among, belongs}
use Rattle.membership.specs.Members.{Members, GroupsByName, Membership}
use Rattle.membership.specs.TextSets.{lists}
use Rattle.membership.proofs.TextSetLemmas.{any-tied}

-- one of a list that passes
some-from_any : (p : List ℕ → Bool) (xs : List (List ℕ)) → list_any p xs ≡ true → (x : List ℕ) × (p x ≡ true) × (lists xs x ≡ true)
some-from_any p [] any = absurd (true≢false (sym any))
some-from_any p (x ∷ xs) any =
    elim (or_cases (p x) (list_any p xs) any) [
      | inl here ↦ (x, here, or_left (bytes_eq x x) (lists xs x) ((bytes_decides x x).1 refl))
      | inr behind ↦ let found = some-from_any p xs behind in (found.0, found.1, or_right (bytes_eq found.0 x) (lists xs found.0) found.2)
    ]

-- a list of which one passes
any-from_listed : (p : List ℕ → Bool) (xs : List (List ℕ)) (x : List ℕ) → p x ≡ true → lists xs x ≡ true → list_any p xs ≡ true
any-from_listed p [] x is listed = absurd (true≢false (sym listed))
any-from_listed p (y ∷ xs) x is listed =
    elim (or_cases (bytes_eq x y) (lists xs x) listed) [
      | inl same ↦ or_left (p y) (list_any p xs) (ap p (sym ((bytes_decides x y).0 same)) ∙ is)
      | inr behind ↦ or_right (p y) (list_any p xs) (any-from_listed p xs x is behind)
    ]

-- a set's list has what the set has
listed-within : (found : Option Members) (inner : List ℕ) → is_within inner found ≡ lists (groups_within found) inner
listed-within None inner = refl
listed-within (Some members) inner = set.contains-items members.groups inner ∙ any-tied inner (set.items members.groups)

-- how many pass
abbrev passing : (List ℕ → Bool) → List (List ℕ) → ℕ
passing p [] = 0
passing p (x ∷ xs) = cond (p x) 1 0 + passing p xs

-- no more than there are
passing-le : (p : List ℕ → Bool) (xs : List (List ℕ)) → passing p xs ≤ length xs
passing-le p [] = omega arith
passing-le p (x ∷ xs) =
    let rest = passing-le p xs in elim (p x) as (λ b. cond b 1 0 + passing p xs ≤ length (x ∷ xs)) [ true ↦ omega (arith, rest) | false ↦ omega (arith, rest) ]

-- a count by a test that passes more
count-le : (p q : List ℕ → Bool) → ((x : List ℕ) → p x ≡ true → q x ≡ true) → (xs : List (List ℕ)) → passing p xs ≤ passing q xs
count-le p q more [] = omega arith
count-le p q more (x ∷ xs) =
    let rest = count-le p q more xs in
    by (p x) (q x) (more x) rest
  where
    by : (a b : Bool) → (a ≡ true → b ≡ true) → passing p xs ≤ passing q xs → cond a 1 0 + passing p xs ≤ cond b 1 0 + passing q xs
    by true true h rest = omega arith
    by true false h rest = absurd (true≢false (sym (h refl)))
    by false true h rest = omega arith
    by false false h rest = omega arith

-- is the same only where no more pass
count-same : (p q : List ℕ → Bool) → ((x : List ℕ) → p x ≡ true → q x ≡ true) → (xs : List (List ℕ)) → passing q xs ≤ passing p xs
    → (x : List ℕ) → lists xs x ≡ true → q x ≡ true → p x ≡ true
count-same p q more [] same x listed is = absurd (true≢false (sym listed))
count-same p q more (y ∷ xs) same x listed is =
    let rest = count-le p q more xs in
    elim (or_cases (bytes_eq x y) (lists xs x) listed) [
      | inl here ↦ let at : x ≡ y = (bytes_decides x y).0 here in ap p at ∙ first (p y) (q y) (ap q (sym at) ∙ is) same rest
      | inr behind ↦ count-same p q more xs (others (p y) (q y) (more y) same) x behind is
    ]
  where
    first : (a b : Bool) → b ≡ true → cond b 1 0 + passing q xs ≤ cond a 1 0 + passing p xs → passing p xs ≤ passing q xs → a ≡ true
    first true b h s rest = refl
    first false true h s rest = absurd (omega arith)
    first false false h s rest = h

    others : (a b : Bool) → (a ≡ true → b ≡ true) → cond b 1 0 + passing q xs ≤ cond a 1 0 + passing p xs → passing q xs ≤ passing p xs
    others true true h s = omega arith
    others true false h s = absurd (true≢false (sym (h refl)))
    others false true h s = omega arith
    others false false h s = omega arith

-- all pass where as many do
count-all : (p : List ℕ → Bool) (xs : List (List ℕ)) → length xs ≤ passing p xs → (x : List ℕ) → lists xs x ≡ true → p x ≡ true
count-all p [] all x listed = absurd (true≢false (sym listed))
count-all p (y ∷ xs) all x listed =
    let most = passing-le p xs in
    elim (or_cases (bytes_eq x y) (lists xs x) listed) [
      | inl here ↦ ap p ((bytes_decides x y).0 here) ∙ first (p y) all most
      | inr behind ↦ count-all p xs (others (p y) all most) x behind
    ]
  where
    first : (a : Bool) → length (y ∷ xs) ≤ cond a 1 0 + passing p xs → passing p xs ≤ length xs → a ≡ true
    first true h most = refl
    first false h most = absurd (omega arith)

    others : (a : Bool) → length (y ∷ xs) ≤ cond a 1 0 + passing p xs → passing p xs ≤ length xs → length xs ≤ passing p xs
    others true h most = omega arith
    others false h most = absurd (omega arith)

module _ (groups : GroupsByName) (caller : List ℕ) where
  -- a user or client
  own : (count : ℕ) (group : List ℕ) → is_member caller (finite.get groups group) ≡ true → belongs_through groups caller count group ≡ true
  unfolding belongs_through
  own zero group is = is
  own (suc count) group is = or_left (is_member caller (finite.get groups group)) _ is

  -- who belongs to a group within
  inner_more : (count : ℕ) (group inner : List ℕ) → is_within inner (finite.get groups group) ≡ true → belongs_through groups caller count inner ≡ true → belongs_through groups caller (suc count) group ≡ true
  unfolding belongs_through
  inner_more count group inner within is =
      or_right (is_member caller (finite.get groups group)) _
      (any-from_listed (belongs_through groups caller count) (groups_within (finite.get groups group)) inner is (sym (listed-within (finite.get groups group) inner) ∙ within))

  -- and nobody else
  abbrev Through : ℕ → List ℕ → Type 0
  Through count group = (is_member caller (finite.get groups group) ≡ true) ⊎ ((inner : List ℕ) × (is_within inner (finite.get groups group) ≡ true) × (belongs_through groups caller count inner ≡ true))

  through_cases : (count : ℕ) (group : List ℕ) → belongs_through groups caller (suc count) group ≡ true → Through count group
  unfolding belongs_through
  through_cases count group is =
      elim (or_cases (is_member caller (finite.get groups group)) _ is) [
        | inl here ↦ inl here
        | inr behind ↦
            let found = some-from_any (belongs_through groups caller count) (groups_within (finite.get groups group)) behind in
            inr (found.0, listed-within (finite.get groups group) found.0 ∙ found.2, found.1)
      ]

  -- who passes the test belongs
  through-Belongs : (count : ℕ) (group : List ℕ) → belongs_through groups caller count group ≡ true → BelongsAmong groups caller group
  unfolding belongs_through
  through-Belongs zero group is = directly is
  through-Belongs (suc count) group is =
      elim (through_cases count group is) [
        | inl here ↦ directly here
        | inr by ↦ through by.1 (through-Belongs count by.0 by.2)
      ]

  -- one more group to look through loses nobody
  through_more : (count : ℕ) (group : List ℕ) → belongs_through groups caller count group ≡ true → belongs_through groups caller (suc count) group ≡ true
  unfolding belongs_through
  through_more zero group is = own 1 group is
  through_more (suc count) group is =
      elim (through_cases count group is) [
        | inl here ↦ own (suc (suc count)) group here
        | inr by ↦ inner_more (suc count) group by.0 by.1 (through_more count by.0 by.2)
      ]

  -- one more group to look through finds nobody
  abbrev IsSettled : ℕ → Type 0
  IsSettled count = (group : List ℕ) → belongs_through groups caller (suc count) group ≡ true → belongs_through groups caller count group ≡ true

  settled_more : (count : ℕ) → IsSettled count → IsSettled (suc count)
  settled_more count settled group is =
      elim (through_cases (suc count) group is) [
        | inl here ↦ own (suc count) group here
        | inr by ↦ inner_more count group by.0 by.1 (settled by.0 by.2)
      ]

  -- then all who belong have been found
  Belongs-through : (count : ℕ) → IsSettled count → (group : List ℕ) → BelongsAmong groups caller group → belongs_through groups caller count group ≡ true
  Belongs-through count settled group (directly is) = own count group is
  Belongs-through count settled group (through {inner = inner} within belongs) = settled group (inner_more count group inner within (Belongs-through count settled inner belongs))

  -- the groups that have been found
  abbrev found_of : ℕ → ℕ
  found_of count = passing (belongs_through groups caller count) (finite.keys groups)

  -- a group that is there is listed
  there : (group : List ℕ) → is_some (finite.get groups group) ≡ lists (finite.keys groups) group
  there group = finite.contains_key-keys groups group ∙ any-tied group (finite.keys groups)

  -- only those that are there count
  is_there : (count : ℕ) (group : List ℕ) → belongs_through groups caller (suc count) group ≡ true → lists (finite.keys groups) group ≡ true
  is_there count group is =
      sym (there group)
      ∙ elim (through_cases count group is) [
        | inl here ↦ by_member (finite.get groups group) here
        | inr by ↦ by_within (finite.get groups group) by.0 by.1
      ]
    where
      by_member : (found : Option Members) → is_member caller found ≡ true → is_some found ≡ true
      by_member None h = absurd (true≢false (sym h))
      by_member (Some members) h = refl

      by_within : (found : Option Members) (inner : List ℕ) → is_within inner found ≡ true → is_some found ≡ true
      by_within None inner h = absurd (true≢false (sym h))
      by_within (Some members) inner h = refl

  -- with each further group to look through another is found, until all are
  found_more : (count : ℕ) → (count ≤ found_of count) ⊎ IsSettled count
  found_more zero = inl (omega arith)
  found_more (suc count) =
      elim (found_more count) [
        | inr settled ↦ inr (settled_more count settled)
        | inl so_far ↦ elim (cases_lt (found_of count) (found_of (suc count))) [
          | inl rises ↦ inl (omega (arith, so_far, rises))
          | inr stays ↦ inr (settled_more count (λ group is.
              count-same (belongs_through groups caller count) (belongs_through groups caller (suc count)) (through_more count) (finite.keys groups) stays group (is_there count group is) is))
        ]
      ]

  settled_at_last : IsSettled (length (finite.keys groups))
  settled_at_last =
      elim (found_more (length (finite.keys groups))) [
        | inr settled ↦ settled
        | inl all ↦ λ group is.
            count-all (belongs_through groups caller (length (finite.keys groups))) (finite.keys groups) all group (is_there (length (finite.keys groups)) group is)
      ]

  -- the test is true just where the caller belongs to the group
  pub belongs-Belongs : (group : List ℕ) → belongs_among groups caller group ≡ true → BelongsAmong groups caller group
  unfolding belongs_among
  belongs-Belongs group is = through-Belongs (length (finite.keys groups)) group is

  pub Belongs-belongs : (group : List ℕ) → BelongsAmong groups caller group → belongs_among groups caller group ≡ true
  unfolding belongs_among
  Belongs-belongs group belongs = Belongs-through (length (finite.keys groups)) settled_at_last group belongs

-- the same of an organisation
pub belonging_is_told : (membership : Membership) (caller group : List ℕ) → IsTrue (belongs membership caller group) ↔ Belongs membership caller group
unfolding belongs Belongs
belonging_is_told membership caller group = (belongs-Belongs membership.groups caller group, Belongs-belongs membership.groups caller group)
