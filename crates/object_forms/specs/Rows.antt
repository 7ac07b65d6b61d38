-- The rows that the tables of the program stand for.
use Rattle.std.specs.Prelude.{false}
use Rattle.doc_tree.specs.Doc.{boolean, words, list, dict, no_docs, no_pairs}
use Rattle.object_forms.specs.Forms as form
use Rattle.object_forms.specs.Fields as fields
use Rattle.object_forms.specs.declared.rows.Form.{Form}
use Rattle.object_forms.specs.declared.rows.Form.TheVariants.{Name, Id, Text, Exactly, Truth, Dict, Items, ItemsByName, ConstraintsByName}
use Rattle.object_forms.specs.declared.rows.Absent.{Absent}
use Rattle.object_forms.specs.declared.rows.Absent.TheVariants.{Fault, Nothing, Words, False, NoItems, NoKeys}
use Rattle.object_forms.specs.declared.rows.Row.{Row}

-- the form that stands in a table
abbrev pub form_of : Form → form.Form
form_of Name = form.a_name
form_of Id = form.an_id
form_of Text = form.a_text
form_of (Exactly text) = form.exactly text.now
form_of Truth = form.a_truth
form_of Dict = form.a_dict
form_of Items = form.items
form_of ItemsByName = form.items_by_name
form_of ConstraintsByName = form.constraints_by_name

-- what stands in a table for a field that isn't there
abbrev pub absent_of : Absent → fields.Absent
absent_of Fault = fields.fault
absent_of Nothing = fields.nothing
absent_of (Words text) = fields.stands (words text.now)
absent_of False = fields.stands (boolean false)
absent_of NoItems = fields.stands (list no_docs)
absent_of NoKeys = fields.stands (dict no_pairs)

-- the row of a field
abbrev pub row_of : Row → fields.Row
row_of row = record { name = row.name.now; form = form_of row.form; absent = absent_of row.absent }
