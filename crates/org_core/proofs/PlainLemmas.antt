-- The refusals of bodies are none of a missing permission.
use Rattle.std.proofs.Common.{ℕ, List, Bool, true, false, Option, IfSome, Result, Ok, Err}
use Rattle.doc_tree.specs.Doc.{Doc}
use Rattle.doc_tree.specs.declared.kind.Kind.{Kind}
use Rattle.object_forms.specs.Objects.{object_from}
use Rattle.org_core.specs.Bodies.{or_bad_field, object_said, object_in_body}
use Rattle.org_requests.specs.Documents.{document_in, unreadable, absent}
use Rattle.org_core.specs.Plain.{IsPlain, RefusesPlainly}
use Rattle.org_requests.specs.Refusals.{refuses}
use Rattle.org_requests.specs.declared.refusals.Refusal.{Refusal}
use Rattle.org_requests.specs.declared.requests.BadBody.{BadBody}
use Rattle.org_requests.specs.declared.requests.BadBody.TheVariants as bad
use Rattle.org_requests.specs.declared.requests.Body.{Body}
use Rattle.org_requests.specs.declared.requests.Body.TheVariants.{Empty, Doc as Read, Bad, Raw, TooLong}

unreadable_plain : (fault : BadBody) → IsPlain (unreadable fault)
unreadable_plain bad.NotJson = tt
unreadable_plain bad.TooDeep = tt
unreadable_plain bad.NotWhole = tt

pub document_plain : (body : Body) → RefusesPlainly (document_in body)
document_plain Empty = tt
document_plain (Read tree) = tt
document_plain (Bad fault) = unreadable_plain fault
document_plain (Raw file) = tt
document_plain TooLong = tt

or_bad_field_plain : (read : Result Doc (List ℕ)) → RefusesPlainly (or_bad_field read)
or_bad_field_plain (Ok object) = tt
or_bad_field_plain (Err field) = tt

said_plain : (kind : Kind) (name : Option (List ℕ)) (document : Result Doc Refusal) → RefusesPlainly document → RefusesPlainly (object_said kind name document)
said_plain kind name (Ok doc) plain = or_bad_field_plain (object_from kind name doc)
said_plain kind name (Err refusal) plain = plain

-- the refusal of an object that a body says
pub body_plain : (kind : Kind) (name : Option (List ℕ)) (body : Body) → RefusesPlainly (object_in_body kind name body)
body_plain kind name body = said_plain kind name (document_in body) (document_plain body)

absent_of : (document : Result Doc Refusal) → RefusesPlainly document → IsPlain (absent document)
absent_of (Ok doc) plain = tt
absent_of (Err refusal) plain = plain

-- and of a body that is for what isn't there
pub absent_plain : (body : Body) → IsPlain (absent (document_in body))
absent_plain body = absent_of (document_in body) (document_plain body)

-- a plain refusal that stands or not
pub refuses_plain : (refusal : Refusal) (b : Bool) → IsPlain refusal → IfSome (refuses refusal b) IsPlain
refuses_plain refusal true plain = plain
refuses_plain refusal false plain = tt
