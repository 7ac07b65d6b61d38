-- What was read of a body, and the name that it has.
use Rattle.std.proofs.Common.{◌≡◌, ℕ, List, true, false, cond, IsTrue, Option, Some, None, is_some, option_and_then, Result, Ok, Err, refl, subst}
use Rattle.std.proofs.lemmas.Option.{same_Some}
use Rattle.doc_tree.specs.Doc.{Doc, null, boolean, whole, words, list, dict}
use Rattle.doc_tree.specs.Name.{is_name}
use Rattle.doc_tree.specs.declared.kind.Kind.{Kind}
use Rattle.object_forms.specs.Forms.{name_from}
use Rattle.object_forms.specs.Objects.{object_from}
use Rattle.org_core.specs.Bodies.{or_bad_field, object_said, object_in_body}
use Rattle.org_requests.specs.Documents.{document_in}
use Rattle.org_core.specs.Named.{text_of}
use Rattle.org_requests.specs.declared.refusals.Refusal.{Refusal}
use Rattle.org_requests.specs.declared.requests.Body.{Body}

-- a body was read as this object, of this kind and, where it is replaced, of this name
abbrev pub IsRead : Kind → Option (List ℕ) → Doc → Type 0
IsRead kind name object = (doc : Doc) × (object_from kind name doc ≡ Ok object)

read_field : (read : Result Doc (List ℕ)) (object : Doc) → or_bad_field read ≡ Ok object → read ≡ Ok object
read_field (Ok d) object is = cc
read_field (Err field) object is = cc

read_said : (kind : Kind) (name : Option (List ℕ)) (document : Result Doc Refusal) (object : Doc) → object_said kind name document ≡ Ok object → IsRead kind name object
read_said kind name (Ok doc) object is = (doc, read_field (object_from kind name doc) object is)
read_said kind name (Err refusal) object is = cc

pub read_body : (kind : Kind) (name : Option (List ℕ)) (body : Body) (object : Doc) → object_in_body kind name body ≡ Ok object → IsRead kind name object
read_body kind name body object is = read_said kind name (document_in body) object is

-- the text at the key of a name is the name that was found there
pub text_named : (found : Option Doc) (name : List ℕ) → option_and_then name_from found ≡ Some name → (text_of found ≡ name) × (is_name name ≡ true)
text_named None name is = cc
text_named (Some null) name is = cc
text_named (Some (boolean b)) name is = cc
text_named (Some (whole z)) name is = cc
text_named (Some (words text)) name is =
    elim (is_name text) as (λ b. is_name text ≡ b → cond b (Some text) None ≡ Some name → (text ≡ name) × (is_name name ≡ true)) [
      | true ↦ λ named same. let at = same_Some text name same in (at, subst (λ (t : List ℕ). is_name t ≡ true) at named)
      | false ↦ λ named none. cc
    ] refl is
text_named (Some (list ds)) name is = cc
text_named (Some (dict ps)) name is = cc

pub some_named : (found : Option (List ℕ)) → IsTrue (is_some found) → (name : List ℕ) × (found ≡ Some name)
some_named None h = cc
some_named (Some name) h = (name, refl)
