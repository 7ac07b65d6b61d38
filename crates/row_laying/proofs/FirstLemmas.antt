-- The first of an organisation's rows, in key order, and what it asks for.
use Rattle.std.proofs.Common.{◌≡◌, ℕ, List, [], ◌∷◌, map, Bool, true, false, not, ◌&&◌, ◌||◌, T, is_some, Ordering, Less, Equal, Greater, is_lt, refl, sym, ap, ◌∙◌}
use mathlib.Core.Bool.{true≢false}
use Rattle.std.specs.Cmp.{tied_itself, Equal-is}
use Rattle.std.specs.FinMap as finite
use Rattle.std.specs.FinMap.Entries.{below_all, is_sorted}
use Rattle.std.specs.List.{list_all, list_any}
use Rattle.std.specs.Ordering.{eq_by_cmp}
use Rattle.outside_keeper.proofs.RowLemmas.{row_cmp_ties}
use Rattle.outside_keeper.specs.Rows.{KeptRows, row_cmp, row_cmp_total}
use Rattle.outside_keeper.specs.declared.row_key.RowKey.{RowKey}
use Rattle.shelves.proofs.PlaceLemmas.{left_of, right_of, flipped}
use Rattle.org_rows.specs.References.{is_first}

-- keys of rows that tie are one
same_row : (x y : RowKey) → eq_by_cmp row_cmp x y ≡ true → x ≡ y
same_row x y tie = row_cmp_ties x y ((Equal-is _).0 tie)

-- entries of rows
abbrev Entries : Type 0
Entries = List (RowKey × List ℕ)

-- the keys of entries
abbrev keys_of : Entries → List RowKey
keys_of es = map (λ e. e.0) es

lt_of : (r : Ordering) → T (is_lt r) → r ≡ Less
lt_of Less h = refl
lt_of Equal h = absurd h
lt_of Greater h = absurd h

module _ (is : RowKey → Bool) where
  -- no key of these is below this one
  abbrev none_below : RowKey → Entries → Bool
  none_below row es = list_all (λ other. not (is other && is_lt (row_cmp other row))) (keys_of es)

  passes : (b : Bool) (r : Ordering) → is_lt r ≡ false → not (b && is_lt r) ≡ true
  passes true r above = ap not above
  passes false r above = refl

  rest_above : (row : RowKey) (es : Entries) → T (below_all row_cmp row es) → none_below row es ≡ true
  rest_above row [] below = refl
  rest_above row (e ∷ es) below =
      (λ i. passes (is e.0) (row_cmp e.0 row) (ap is_lt (flipped row_cmp row_cmp_total row e.0 (lt_of (row_cmp row e.0) (left_of (is_lt (row_cmp row e.0)) (below_all row_cmp row es) below)))) i
      && list_all (λ other. not (is other && is_lt (row_cmp other row))) (keys_of es))
      ∙ rest_above row es (right_of (is_lt (row_cmp row e.0)) (below_all row_cmp row es) below)

  itself_above : (row : RowKey) → not (is row && is_lt (row_cmp row row)) ≡ true
  itself_above row = passes (is row) (row_cmp row row) (ap is_lt (tied_itself row_cmp_total row))

  first_among : (es : Entries) → T (is_sorted row_cmp es) → list_any is (keys_of es) ≡ true
      → (row : RowKey) × (is row ≡ true) × (list_any (eq_by_cmp row_cmp row) (keys_of es) ≡ true) × (none_below row es ≡ true)
  first_among [] sorted there = absurd (true≢false (sym there))
  first_among (e ∷ es) sorted there =
      elim (is e.0) as (λ b. is e.0 ≡ b → (b || list_any is (keys_of es)) ≡ true
      → (row : RowKey) × (is row ≡ true) × (list_any (eq_by_cmp row_cmp row) (keys_of (e ∷ es)) ≡ true) × (none_below row (e ∷ es) ≡ true)) [
        | true ↦ λ here _. (
          e.0,
          here,
          ap (λ b. b || list_any (eq_by_cmp row_cmp e.0) (keys_of es)) ((Equal-is _).1 (tied_itself row_cmp_total e.0)),
          ap (λ b. b && none_below e.0 es) (itself_above e.0) ∙ rest_above e.0 es (left_of (below_all row_cmp e.0 es) (is_sorted row_cmp es) sorted),
        )
        | false ↦ λ other later.
            let found = first_among es (right_of (below_all row_cmp e.0 es) (is_sorted row_cmp es) sorted) later in (
              found.0,
              found.1,
              or_behind (eq_by_cmp row_cmp found.0 e.0) (list_any (eq_by_cmp row_cmp found.0) (keys_of es)) found.2,
              ap (λ b. not (b && is_lt (row_cmp e.0 found.0)) && none_below found.0 es) other ∙ found.3,
            )
      ] refl there
    where
      or_behind : (a b : Bool) → b ≡ true → (a || b) ≡ true
      or_behind true b is = refl
      or_behind false b is = is

  -- one that is there has a key among these
  listed : (es : Entries) (row : RowKey) → is row ≡ true → list_any (eq_by_cmp row_cmp row) (keys_of es) ≡ true → list_any is (keys_of es) ≡ true
  listed [] row holds there = absurd (true≢false (sym there))
  listed (e ∷ es) row holds there =
      elim (eq_by_cmp row_cmp row e.0) as (λ b. eq_by_cmp row_cmp row e.0 ≡ b → (b || list_any (eq_by_cmp row_cmp row) (keys_of es)) ≡ true → (is e.0 || list_any is (keys_of es)) ≡ true) [
        | true ↦ λ tie _. ap (λ b. b || list_any is (keys_of es)) (ap is (sym (same_row row e.0 tie)) ∙ holds)
        | false ↦ λ _ later. or_later (is e.0) (list_any is (keys_of es)) (listed es row holds later)
      ] refl there
    where
      or_later : (a b : Bool) → b ≡ true → (a || b) ≡ true
      or_later true b is = refl
      or_later false b is = is

  -- the first of the rows that are such
  pub first_row : (rows : KeptRows) (row : RowKey) → is row ≡ true → is_some (finite.get rows row) ≡ true
      → (first : RowKey) × (is first ≡ true) × (is_some (finite.get rows first) ≡ true) × (is_first is rows first ≡ true)
  first_row rows row holds there =
      let any : list_any is (finite.keys rows) ≡ true = listed (finite.entries rows) row holds (sym (finite.contains_key-keys rows row) ∙ there) in
      let found = first_among (finite.entries rows) (finite.entries_sorted rows) any in
      (found.0, found.1, finite.contains_key-keys rows found.0 ∙ found.2, found.3)
