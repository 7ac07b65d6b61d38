-- What comes of a row whose kind is good, for the private clauses of reading.
use Rattle.std.specs.Prelude.{◌≡◌, ℕ, List, Option, Some, None, Result, Ok, Err}
use Rattle.org_rows.specs.Places.{Place}
use Rattle.org_rows.specs.Reading.{content_at}
use Rattle.org_rows.specs.declared.reason.Reason.{Reason}
use Rattle.org_rows.specs.declared.reason.Reason.TheVariants as reason
use Rattle.row_reading.specs.Rows.{Says}
use Rattle.row_reading.specs.declared.said.Said.{Said}

-- of a row at this place with this body: what it says, or that its name or its body is bad
abbrev pub ComesOf : Option Place → List ℕ → Result Said Reason → Type 0
ComesOf None body read = read ≡ Err reason.Name
ComesOf (Some at) body (Ok said) = Says at body said
ComesOf (Some at) body (Err why) = (why ≡ reason.Body) × (content_at at body ≡ None)
