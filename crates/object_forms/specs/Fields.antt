-- The fields of an object, read one by one in their order.
use Rattle.std.specs.Prelude.{ℕ, List, [], ◌∷◌, Option, Some, None, Result, Ok, Err}
use Rattle.doc_tree.specs.Doc.{Doc, words, dict, Pairs, no_pairs}
use Rattle.doc_tree.specs.Part.{pair_at, with_pair}
use Rattle.object_forms.specs.Forms.{Form, exactly, a_dict, stored}

-- what a field that isn't there is: a fault, nothing, or its default
pub data Absent : Type 0 where
  fault : Absent
  nothing : Absent
  stands : Doc → Absent

-- a row of a table of fields
pub record Row : Type 0 where
  pub name : List ℕ
  pub form : Form
  pub absent : Absent

-- a field of this name and form
abbrev pub field : List ℕ → Form → Absent → Row
field name form absent = record { name = name; form = form; absent = absent }

-- a field that has this text, given or not
abbrev pub always : List ℕ → List ℕ → Row
always name text = field name (exactly text) (stands (words text))

-- a field that is a Dict, and else the empty one
abbrev pub attributes : List ℕ → Row
attributes name = field name a_dict (stands (dict no_pairs))

-- what is made, with what a field that isn't there is beside it, or the field's name where that is a fault
abbrev pub unsent : List ℕ → Absent → List (List ℕ × Doc) → Result (List (List ℕ × Doc)) (List ℕ)
unsent name fault made = Err name
unsent name nothing made = Ok made
unsent name (stands d) made = Ok (with_pair name d made)

-- what is made, with what is stored of a field beside it, or the field's name where it hasn't its form
abbrev pub sent : List ℕ → Option Doc → List (List ℕ × Doc) → Result (List (List ℕ × Doc)) (List ℕ)
sent name None made = Err name
sent name (Some d) made = Ok (with_pair name d made)

-- what is made, with a field beside it that the body has or hasn't
abbrev pub taken : Row → Option Doc → List (List ℕ × Doc) → Result (List (List ℕ × Doc)) (List ℕ)
taken row None made = unsent row.name row.absent made
taken row (Some d) made = sent row.name (stored row.form d) made

-- what a next step makes of what was made, or the first fault
abbrev pub then_do : {A : Type 0} → Result A (List ℕ) → (A → Result A (List ℕ)) → Result A (List ℕ)
then_do (Ok made) next = next made
then_do (Err name) next = Err name

-- the fields of these rows, each from the body's pairs, put beside what is made, or the first that hasn't its form
abbrev pub fields_of : List Row → Pairs → List (List ℕ × Doc) → Result (List (List ℕ × Doc)) (List ℕ)
fields_of [] body made = Ok made
fields_of (row ∷ rows) body made = then_do (taken row (pair_at row.name body) made) (fields_of rows body)
