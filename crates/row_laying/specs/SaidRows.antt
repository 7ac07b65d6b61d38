-- Which rows say what is said.
use Rattle.std.specs.Prelude.{◌≡◌, ◌⊎◌, ℕ, List, [], ◌∷◌, Some}
use Rattle.std.specs.FinMap as finite
use Rattle.outside_keeper.specs.Rows.{KeptRows}
use Rattle.outside_keeper.specs.declared.row_key.RowKey.{RowKey}
use Rattle.org_core.specs.FullStates.{FullState}
use Rattle.org_rows.specs.Places.{IsPlace, row_of}
use Rattle.org_rows.specs.Reading.{content_at}
use Rattle.org_rows.specs.Rows.{row_in}
use Rattle.row_reading.specs.declared.said.Said.{Said}
use Rattle.row_reading.specs.Sayings.{place_said, content_said}

-- it is one of these
abbrev pub IsAmong : Said → List Said → Type 0
IsAmong said [] = ⊥
IsAmong said (first ∷ rest) = (said ≡ first) ⊎ IsAmong said rest

-- a row of the organisation of this name says it
pub record IsSaidBy (org : List ℕ) (rows : KeptRows) (said : Said) : Type 0 where
  pub body : List ℕ
  pub there : finite.get rows (row_of org (place_said said)) ≡ Some body
  pub named : IsPlace (place_said said)
  pub says : content_at (place_said said) body ≡ Some (content_said said)

-- each of these is said by a row of the organisation of this name, and each of its rows says one of these
pub record AreSaid (org : List ℕ) (rows : KeptRows) (all : List Said) : Type 0 where
  pub each : (said : Said) → IsAmong said all → IsSaidBy org rows said
  pub whole : (row : RowKey) (body : List ℕ) → row.org ≡ org → finite.get rows row ≡ Some body
      → (said : Said) × IsAmong said all × (row_of org (place_said said) ≡ row)

-- the rows of the organisation of this name are those of this full state
abbrev pub AreRowsIn : List ℕ → KeptRows → FullState → Type 0
AreRowsIn org rows full = (row : RowKey) → row.org ≡ org → finite.get rows row ≡ row_in full row
