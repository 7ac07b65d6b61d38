-- The rows of the definition that those of the program stand for.
use Rattle.cookbook_meta.specs.Fields as spec
use Rattle.cookbook_meta.specs.declared.fields.Form.{Form}
use Rattle.cookbook_meta.specs.declared.fields.Form.TheVariants.{Named, Released, Stated}
use Rattle.cookbook_meta.specs.declared.fields.Row.{Row}

-- the form that stands in a row
abbrev pub form_of : Form → spec.Form
form_of (Named name) = spec.named name.now
form_of (Released version) = spec.released version
form_of (Stated text) = spec.stated text.now

-- the row of a field
abbrev pub row_of : Row → spec.Row
row_of row = record { key = row.key.now; must = row.must; form = form_of row.form }
