-- What is sent of a file.
use Rattle.std.specs.Prelude.{ℕ, List, [], ◌∷◌, Option, Some, None, option_map, option_and_then, codes, if◌then◌else◌}
use Rattle.doc_tree.specs.Doc.{Doc}
use Rattle.doc_tree.specs.Name.{is_name}
use Rattle.peer_wire.specs.declared.asks.Verb.TheVariants.{Post, Put}
use Rattle.peer_wire.specs.declared.asks.Whom.{Whom}
use Rattle.knife_errands.specs.declared.errands.FileKind.{FileKind}
use Rattle.knife_errands.specs.declared.errands.FileKind.TheVariants.{Object, Item as Items}
use Rattle.knife_errands.specs.declared.errands.Kind.TheVariants.{DataBag}
use Rattle.knife_errands.specs.declared.errands.Thing.{Thing}
use Rattle.knife_errands.specs.declared.errands.Thing.TheVariants.{Named, Item}
use Rattle.knife_errands.specs.declared.files.Sent.{Sent}
use Rattle.knife_errands.specs.Bodies.{document_in, text_at}
use Rattle.knife_errands.specs.Kinds.{collection}
use Rattle.knife_errands.specs.Printing.{done_to}
use Rattle.knife_errands.specs.Requests.{sends}
use Rattle.knife_errands.specs.Targets.{target, place_of}

-- the key at which a file has its name
abbrev pub key_of : FileKind → List ℕ
key_of (Object kind) = codes "name"
key_of (Items bag) = codes "id"

-- the text, if it has the form of a name
abbrev pub if_name : List ℕ → Option (List ℕ)
if_name text = if is_name text then Some text else None

-- the name that a file's document has
abbrev pub name_in : FileKind → Doc → Option (List ℕ)
name_in kind d = option_and_then if_name (text_at (key_of kind) d)

-- what the file of this name is
abbrev pub thing_of : FileKind → List ℕ → Thing
thing_of (Object kind) name = Named kind name
thing_of (Items bag) name = Item bag name

-- where such things stand
abbrev pub place_above : FileKind → List (List ℕ)
place_above (Object kind) = collection kind ∷ []
place_above (Items bag) = collection DataBag ∷ bag ∷ []

-- its document is put where it stands, or posted where such things stand, and a line tells of it
abbrev pub sends_all : FileKind → Whom → Doc → List ℕ → Sent
sends_all kind whom d name = record {
  put = sends Put (target whom (place_of (thing_of kind name))) d;
  post = sends Post (target whom (place_above kind)) d;
  line = done_to (codes "Updated") (thing_of kind name);
}

-- what is sent of the document of a file
abbrev pub sent_by : FileKind → Whom → Doc → Option Sent
sent_by kind whom d = option_map (sends_all kind whom d) (name_in kind d)

-- what is sent of a file; nothing where it isn't JSON that has a name
abbrev pub sent_of : FileKind → Whom → List ℕ → Option Sent
sent_of kind whom file = option_and_then (sent_by kind whom) (document_in file)
