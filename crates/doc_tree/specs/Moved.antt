-- What is made of the parts of a JSON value, for the private clauses of reading.
use Rattle.std.specs.Prelude.{◌≡◌, Option, Some, None, Result, Ok, Err, ⊤}
use Rattle.serde_json.specs.Data.{Data}
use Rattle.serde_json.specs.View.{view}
use Rattle.serde_json.specs.declared.value.Value.{Value}
use Rattle.doc_tree.specs.declared.read.ReadFault.{ReadFault}
use Rattle.doc_tree.specs.declared.read.ReadFault.TheVariants.{NotJson, TooDeep, NotWhole, NoMemory}

-- the answer has what there is, or says that there is none; only want of memory says nothing of it
abbrev pub Makes : {T D : Type 0} → (T → D) → Result T ReadFault → Option D → Type 0
Makes view (Ok made) found = found ≡ Some (view made)
Makes view (Err NotJson) found = ⊥
Makes view (Err TooDeep) found = ⊥
Makes view (Err NotWhole) found = found ≡ None
Makes view (Err NoMemory) found = ⊤

-- the value that there is, or none; only want of memory says nothing of it
abbrev pub Parses : Result Value ReadFault → Option Data → Type 0
Parses (Ok value) found = found ≡ Some (view value)
Parses (Err NotJson) found = found ≡ None
Parses (Err TooDeep) found = ⊥
Parses (Err NotWhole) found = ⊥
Parses (Err NoMemory) found = ⊤
