-- What the body of a row says of what the row is of, and why a row is bad.
use Rattle.std.specs.Prelude.{◌≡◌, ℕ, List, Bool, true, Option, Some, None, option_and_then}
use Rattle.outside_keeper.specs.Rows.{KeptRows}
use Rattle.outside_keeper.specs.declared.row_key.RowKey.{RowKey}
use Rattle.org_rows.specs.Places.{Place, kind_named}
use Rattle.org_rows.specs.Reading.{content_at}
use Rattle.org_rows.specs.Reasons.{has_digest, named_place, reason_of}
use Rattle.org_rows.specs.declared.reason.Reason.{Reason}
use Rattle.row_reading.specs.Sayings.{place_said, content_said, IsStoredSaying}
use Rattle.row_reading.specs.declared.said.Said.{Said}

-- A body says this of a place: it is what the body says there, it is stored so, and it is said of that place. What a file
-- is said of is told by its digest: where that isn't the row's name, it is said of another place.
pub record Says (at : Place) (body : List ℕ) (said : Said) : Type 0 where
  pub content : content_at at body ≡ Some (content_said said)
  pub stored : IsStoredSaying said
  pub of_place : has_digest at (content_said said) ≡ true → place_said said ≡ at

-- the body says this of a place, or nothing that a body there can say
abbrev pub Tells : Place → List ℕ → Option Said → Type 0
Tells at body None = content_at at body ≡ None
Tells at body (Some said) = Says at body said

-- what a row is of, if its kind, its organisation and its name are good
abbrev pub place_named : RowKey → Option Place
place_named row = option_and_then (λ kind. named_place row.org kind row.name) (kind_named row.kind)

-- a row with this body says this: its kind, its organisation and its name are good, and so is its body
pub record IsSaying (row : RowKey) (body : List ℕ) (said : Said) : Type 0 where
  pub at : Place
  pub named : place_named row ≡ Some at
  pub says : Says at body said

-- the row with this body is bad for this reason, whatever other rows there are and whichever organisations lie in the shard
abbrev pub IsBadFor : RowKey → List ℕ → Reason → Type 0
IsBadFor row body reason = (lies_here : List ℕ → Bool) (rows : KeptRows) → reason_of lies_here rows row body ≡ Some reason
