-- What a body has: its document, or why there is none.
use Rattle.std.specs.Prelude.{Bool, true, false, Result, Ok, Err}
use Rattle.doc_tree.specs.Doc.{Doc}
use Rattle.doc_tree.specs.Tree.{doc_of}
use Rattle.org_requests.specs.declared.requests.BadBody.{BadBody}
use Rattle.org_requests.specs.declared.requests.BadBody.TheVariants as bad
use Rattle.org_requests.specs.declared.requests.Body.{Body}
use Rattle.org_requests.specs.declared.requests.Body.TheVariants.{Empty, Doc as Read, Bad, Raw, TooLong}
use Rattle.org_requests.specs.declared.refusals.Refusal.{Refusal}
use Rattle.org_requests.specs.declared.refusals.Refusal.TheVariants.{NotJson, TooDeep, NotWhole, TooLarge, NotFound}

-- a body over the limit
abbrev pub is_too_long : Body → Bool
is_too_long Empty = false
is_too_long (Read tree) = false
is_too_long (Bad fault) = false
is_too_long (Raw file) = false
is_too_long TooLong = true

-- the refusal of bytes that aren't read as JSON
abbrev pub unreadable : BadBody → Refusal
unreadable bad.NotJson = NotJson
unreadable bad.TooDeep = TooDeep
unreadable bad.NotWhole = NotWhole

-- the document of a body, or why there is none
abbrev pub document_in : Body → Result Doc Refusal
document_in Empty = Err NotJson
document_in (Read tree) = Ok (doc_of tree)
document_in (Bad fault) = Err (unreadable fault)
document_in (Raw file) = Err NotJson
document_in TooLong = Err TooLarge

-- the refusal of a body that is for what nobody can have made: it has only to be readable, and then nothing
-- is there
abbrev pub absent : Result Doc Refusal → Refusal
absent (Ok doc) = NotFound
absent (Err refusal) = refusal
