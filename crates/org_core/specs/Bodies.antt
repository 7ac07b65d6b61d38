-- The object that a body says.
use Rattle.std.specs.Prelude.{ℕ, List, Option, Result, Ok, Err}
use Rattle.doc_tree.specs.Doc.{Doc}
use Rattle.doc_tree.specs.declared.kind.Kind.{Kind}
use Rattle.object_forms.specs.Objects.{object_from}
use Rattle.org_requests.specs.declared.requests.Body.{Body}
use Rattle.org_requests.specs.declared.refusals.Refusal.{Refusal}
use Rattle.org_requests.specs.declared.refusals.Refusal.TheVariants.{BadField}
use Rattle.org_requests.specs.Documents.{document_in}

-- what was read, or the first bad field
abbrev pub or_bad_field : Result Doc (List ℕ) → Result Doc Refusal
or_bad_field (Ok object) = Ok object
or_bad_field (Err field) = Err (BadField field)

-- the object that a document says, of this kind and, where it is replaced, of this name
abbrev pub object_said : Kind → Option (List ℕ) → Result Doc Refusal → Result Doc Refusal
object_said kind name (Ok doc) = or_bad_field (object_from kind name doc)
object_said kind name (Err refusal) = Err refusal

-- the object that a body says
abbrev pub object_in_body : Kind → Option (List ℕ) → Body → Result Doc Refusal
object_in_body kind name body = object_said kind name (document_in body)
