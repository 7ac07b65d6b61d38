-- What the rows of an organisation say, where none of them is bad.
use Rattle.std.specs.Prelude.{◌≡◌, ℕ, List, true}
use Rattle.outside_keeper.specs.Rows.{KeptRows}
use Rattle.org_rows.specs.Places.{row_of}
use Rattle.org_rows.specs.References.{has_references}
use Rattle.row_reading.specs.declared.said.Said.{Said}
use Rattle.row_laying.specs.SaidRows.{IsAmong, AreSaid}
use Rattle.row_reading.specs.Sayings.{place_said, content_said, IsStoredSaying}

-- the rows of the organisation of this name say these, what they say is stored so, and they have all that they ask for
pub record AreKept (org : List ℕ) (rows : KeptRows) (all : List Said) : Type 0 where
  pub are_said : AreSaid org rows all
  pub stored : (one : Said) → IsAmong one all → IsStoredSaying one
  pub referred : (one : Said) → IsAmong one all → has_references rows (row_of org (place_said one)) (place_said one) (content_said one) ≡ true

-- they are what the rows of some organisation of this name say, of which there is one at least
abbrev pub AreWhole : List ℕ → List Said → Type 0
AreWhole org all = (rows : KeptRows) × AreKept org rows all × ((one : Said) × IsAmong one all)
