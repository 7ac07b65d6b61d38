-- The object that a body stands for, as it is stored, or the first field that hasn't its form.
use Rattle.std.specs.Prelude.{◌≡◌, ℕ, Bool, false, cond, ◌&&◌, IsTrue, List, [], ◌∷◌, Option, Some, None, option_and_then, unwrap_or, is_some, Result, Ok, Err, bytes_eq, codes}
use Rattle.doc_tree.specs.Doc.{Doc, null, boolean, whole, words, list, dict, Pairs, pairs_of, pairs_list}
use Rattle.doc_tree.specs.Part.{part_at, pair_at}
use Rattle.doc_tree.specs.declared.kind.Kind.{Kind}
use Rattle.object_forms.specs.Forms.{Form, a_name, an_id, exactly, a_dict, stored, name_from}
use Rattle.object_forms.specs.Fields.{Row, field, fault, always, fields_of}
use Rattle.object_forms.specs.GroupBodies.{group_from}
use Rattle.object_forms.specs.Kinds.{table, is_item, is_group}

-- the field that names an object: `id` of an item, `groupname` of a group, and else `name`
abbrev pub key_of : Kind → List ℕ
key_of kind = cond (is_item kind) (codes "id") (cond (is_group kind) (codes "groupname") (codes "name"))

-- the form of the field that names an object, where the path doesn't name it
abbrev pub name_form : Kind → Form
name_form kind = cond (is_item kind) an_id a_name

-- the field that names an object: the path's name, given or not, and else one that must be there
abbrev pub name_row : Kind → Option (List ℕ) → Row
name_row kind None = field (key_of kind) (name_form kind) fault
name_row kind (Some name) = always (key_of kind) name

-- the path names what can't be an item
abbrev pub is_no_id : Kind → Option (List ℕ) → Bool
is_no_id kind None = false
is_no_id kind (Some name) = bytes_eq name (codes "_acl") && is_item kind

-- what a Dict has at a key, if it has this form
abbrev pub formed_at : List ℕ → Form → Pairs → Option Doc
formed_at key form body = option_and_then (stored form) (pair_at key body)

-- the body of an item tells by its class that the item is in its `raw_data`
abbrev pub is_wrapped : Pairs → Bool
is_wrapped body = is_some (formed_at (codes "json_class") (exactly (codes "Chef::DataBagItem")) body)

-- the item that the body of one holds in its `raw_data`, where that is a Dict
abbrev pub raw_data : Pairs → Option Doc
raw_data body = cond (is_wrapped body) (formed_at (codes "raw_data") a_dict body) None

-- the item that the body of one stands for
abbrev pub item_in : Doc → Doc
item_in null = null
item_in (boolean b) = boolean b
item_in (whole z) = whole z
item_in (words text) = words text
item_in (list ds) = list ds
item_in (dict body) = unwrap_or (raw_data body) (dict body)

-- what a body stands for
abbrev pub body_of : Kind → Doc → Doc
body_of kind d = cond (is_item kind) (item_in d) d

-- what an object has beside its fields: an item all else that was sent
abbrev pub beside : Kind → Pairs → List (List ℕ × Doc)
beside kind body = cond (is_item kind) (pairs_list body) []

-- the rows of an object, of which the first is that of its name
abbrev pub rows : Kind → Option (List ℕ) → List Row
rows kind name = name_row kind name ∷ unwrap_or (table kind) []

-- these fields as an object
abbrev pub made_of : Result (List (List ℕ × Doc)) (List ℕ) → Result Doc (List ℕ)
made_of (Ok made) = Ok (dict (pairs_of made))
made_of (Err name) = Err name

-- the object that a Dict gives
abbrev pub object_in : Kind → Option (List ℕ) → Pairs → Result Doc (List ℕ)
object_in kind name body = made_of (fields_of (rows kind name) body (beside kind body))

-- the object that a document gives, where only a Dict has fields
abbrev pub object_of : Kind → Option (List ℕ) → Doc → Result Doc (List ℕ)
object_of kind name null = Err (key_of kind)
object_of kind name (boolean b) = Err (key_of kind)
object_of kind name (whole z) = Err (key_of kind)
object_of kind name (words text) = Err (key_of kind)
object_of kind name (list ds) = Err (key_of kind)
object_of kind name (dict body) = object_in kind name body

-- the object that a body gives by its kind's table
abbrev pub by_table : Kind → Option (List ℕ) → Doc → Result Doc (List ℕ)
by_table kind name d = cond (is_no_id kind name) (Err (key_of kind)) (object_of kind name (body_of kind d))

-- the object that a body gives under the path's name, if there is one, or the first field that hasn't its form
abbrev pub object_from : Kind → Option (List ℕ) → Doc → Result Doc (List ℕ)
object_from kind name d = cond (is_group kind) (group_from name d) (by_table kind name d)

-- the Name at the key that names an object
abbrev pub name_in : Kind → Doc → Option (List ℕ)
name_in kind d = option_and_then name_from (part_at (key_of kind) d)

-- the name that was found is the path's, and where there is none any Name
abbrev pub NamedBy : Option (List ℕ) → Option (List ℕ) → Type 0
NamedBy None found = IsTrue (is_some found)
NamedBy (Some name) found = found ≡ Some name

-- an object has a Name, and the path's where there is one
abbrev pub HasName : Kind → Option (List ℕ) → Doc → Type 0
HasName kind name d = NamedBy name (name_in kind d)
