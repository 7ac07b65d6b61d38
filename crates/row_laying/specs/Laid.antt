-- What was laid of an organisation's rows so far.
use Rattle.std.specs.Prelude.{◌≡◌, List}
use Rattle.org_core.specs.States.{Organisation, nothing}
use Rattle.sandboxes.specs.Sandboxes.{Holding}
use Rattle.sandboxes.specs.Sandboxes as sandboxes
use Rattle.row_laying.specs.declared.laid.Laid.{Laid}
use Rattle.row_reading.specs.declared.said.Said.{Said}
use Rattle.row_laying.specs.Laying.{organisation_from, with_all, files_with_all}

-- the organisation that was laid
abbrev pub organisation_laid : Laid → Organisation
organisation_laid laid = organisation_from laid.objects laid.groups laid.shelves

-- an organisation and its files are what these say, laid where there was nothing
pub record IsLaid (all : List Said) (o : Organisation) (held : Holding) : Type 0 where
  pub organisation : o ≡ with_all all nothing
  pub files : held ≡ files_with_all all sandboxes.nothing
