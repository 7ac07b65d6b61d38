-- Rows by their keys.
use Rattle.std.specs.Prelude.{◌≡◌, ℕ, ◌-◌, Bool, true, List, slice_get, Option, Some, None, refl}
use Rattle.std.specs.declared.cmp.Ordering.{Ordering}
use Rattle.std.specs.Ordering.{nat_cmp, ordering_then, is_lt}
use Rattle.std.specs.Cmp.{IsTotalOrder, then_total, on_total}
use Rattle.std.specs.Cmp.Lexicographic.{slice_cmp, nat_list_cmp_total}
use Rattle.std.specs.Coded.{Coded, code_by, coded×, coded_list, coded_ℕ}
use Rattle.std.specs.FinMap as finite
use Rattle.outside_keeper.specs.declared.row_key.RowKey.{RowKey}

-- the key of this organisation, kind and name
abbrev pub row_key : List ℕ → List ℕ → List ℕ → RowKey
row_key org kind name = record { org = org; kind = kind; name = name }

-- keys are ordered by the bytes of their organisations, then of their kinds, then of their names
abbrev pub row_cmp : RowKey → RowKey → Ordering
row_cmp x y =
    ordering_then (ordering_then (slice_cmp nat_cmp x.org y.org) (slice_cmp nat_cmp x.kind y.kind)) (slice_cmp nat_cmp x.name y.name)

-- any two keys are in order
pub row_cmp_total : IsTotalOrder row_cmp
row_cmp_total =
    then_total
    (then_total (on_total (λ (k : RowKey). k.org) nat_list_cmp_total) (on_total (λ (k : RowKey). k.kind) nat_list_cmp_total))
    (on_total (λ (k : RowKey). k.name) nat_list_cmp_total)

-- rows that are kept: bodies by their keys
abbrev pub KeptRows : Type 0
KeptRows = finite.FinMap row_cmp (List ℕ)

-- the last row, in the order of the keys
abbrev pub last_row : KeptRows → Option (RowKey × List ℕ)
last_row rows = slice_get (finite.entries rows) (finite.len rows - 1)

-- the key is above that of the row, if there is one
abbrev pub is_above_row : RowKey → Option (RowKey × List ℕ) → Bool
is_above_row key None = true
is_above_row key (Some row) = is_lt (row_cmp row.0 key)

-- the key is above that of the last row
abbrev pub is_above : RowKey → KeptRows → Bool
is_above key rows = is_above_row key (last_row rows)

-- how the logic stores a key, and rows
abbrev pub row_key_code : Coded RowKey
row_key_code =
    code_by (List ℕ × (List ℕ × List ℕ)) (coded× (coded_list coded_ℕ) (coded× (coded_list coded_ℕ) (coded_list coded_ℕ)))
    (λ k. (k.org, (k.kind, k.name))) (λ p. record { org = p.0; kind = p.1.0; name = p.1.1 }) (λ _. refl)

abbrev pub kept_rows_code : Coded KeptRows
kept_rows_code = finite.code row_key_code (coded_list coded_ℕ)
