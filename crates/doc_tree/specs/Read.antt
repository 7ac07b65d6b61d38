-- The document that a JSON text says (RFC 8259), or why there is none.
use Rattle.std.specs.Prelude.{◌≡◌, ℕ, List, Option, Some, None, Result, Ok, Err, nat_lt, if◌then◌else◌, ⊤}
use Rattle.std.specs.Str.{is_utf8}
use Rattle.serde_json.specs.Data.{Data, depth}
use Rattle.serde_json.specs.Read.{read}
use Rattle.doc_tree.specs.Data.{doc_in}
use Rattle.doc_tree.specs.Doc.{Doc}
use Rattle.doc_tree.specs.Tree.{doc_of}
use Rattle.doc_tree.specs.declared.read.ReadFault.{ReadFault}
use Rattle.doc_tree.specs.declared.read.ReadFault.TheVariants.{NotJson, TooDeep, NotWhole, NoMemory}
use Rattle.doc_tree.specs.declared.tree.Tree.{Tree}

-- the JSON value that bytes spell, where they are UTF-8 and one value
abbrev pub json_value : List ℕ → Option Data
json_value bytes = if is_utf8 bytes then read bytes else None

-- the document, unless a number isn't whole
abbrev pub if_whole : Option Doc → Result Doc ReadFault
if_whole None = Err NotWhole
if_whole (Some d) = Ok d

-- the document that a value is, unless it is too deep or a number isn't whole
abbrev pub if_document : Option Data → Result Doc ReadFault
if_document None = Err NotJson
if_document (Some value) = if nat_lt 100 (depth value) then Err TooDeep else if_whole (doc_in value)

-- the document that bytes spell, or the first fault
abbrev pub reads : List ℕ → Result Doc ReadFault
reads bytes = if_document (json_value bytes)

-- an answer gives what was to be read; only want of memory says nothing of it
abbrev pub Gives : Result Tree ReadFault → Result Doc ReadFault → Type 0
Gives (Ok tree) outcome = outcome ≡ Ok (doc_of tree)
Gives (Err NotJson) outcome = outcome ≡ Err NotJson
Gives (Err TooDeep) outcome = outcome ≡ Err TooDeep
Gives (Err NotWhole) outcome = outcome ≡ Err NotWhole
Gives (Err NoMemory) outcome = ⊤
