-- The rows of organisations.
use Rattle.std.specs.Prelude.{◌≡◌, ℕ, List, Option, option_and_then}
use Rattle.std.specs.FinMap as finite
use Rattle.org_core.specs.FullStates.{FullState}
use Rattle.outside_keeper.specs.Rows.{KeptRows}
use Rattle.outside_keeper.specs.declared.row_key.RowKey.{RowKey}
use Rattle.org_rows.specs.Bodies.{body_at}
use Rattle.org_rows.specs.Places.{place_of}

-- the body of the row of this key in an organisation's full state, if it has such a row
abbrev pub row_in : FullState → RowKey → Option (List ℕ)
row_in full row = option_and_then (body_at full) (place_of row)

-- the rows are those of the states of these organisations
abbrev pub AreRowsOf : (List ℕ → FullState) → KeptRows → Type 0
AreRowsOf states rows = (row : RowKey) → finite.get rows row ≡ row_in (states row.org) row
