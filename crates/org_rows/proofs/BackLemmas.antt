-- A body that says what stands at a place is the body that the state has there.
use Rattle.std.proofs.Common.{◌≡◌, ℕ, Bool, true, false, cond, List, [], ◌∷◌, bytes_eq, nat_eq, Option, Some, None, option_map, option_and_then, refl, sym, ap, subst, ◌∙◌}
use Rattle.std.proofs.lemmas.Bool.{and_parts}
use Rattle.std.specs.Cmp.Lexicographic.{bytes_decides}
use Rattle.std.specs.FinMap as finite
use Rattle.std.specs.FinSet as set
use Rattle.compact_json.specs.Compact.{spelled}
use Rattle.access_lists.specs.Forms.{acl_in}
use Rattle.org_shelves.specs.StoredManifests.{artifact_stored_from, stored_from}
use Rattle.access_lists.specs.Starting.{container_named}
use Rattle.doc_tree.specs.Doc.{Doc}
use Rattle.doc_tree.specs.Written.{text}
use Rattle.sandboxes.specs.declared.stored.Stored.{Stored}
use Rattle.shelves.specs.Shelves.{value_at}
use Rattle.org_rows.specs.Bodies.{acl_body, assigned_body, count_body, file_body, group_body, name_body, sandbox_body}
use Rattle.org_rows.specs.Laws.{BodiesSayContents, ContentsGiveBodies}
use Rattle.org_rows.specs.Places.{itself, object, user, group, container, version, artifact, revision, policy_group, acl, sandbox, file}
use Rattle.org_rows.specs.Reading.{assigned_in, count_in, given, members_in, object_stored, revision_stored, sums_in, document_in, file_behind, file_in, if_stored, is_compact, is_doc, said, stored_in, written_as}
use Rattle.org_rows.specs.Things.{Content, count, document, name_alone, members, assigned, list, sums, stored}
use Rattle.org_rows.proofs.ContentLemmas.{said_at}
use Rattle.org_rows.proofs.WordLemmas.{nat_same, some_same}

-- ---- what is said is written

written_is : {X : Type 0} (write : X → List ℕ) (body : List ℕ) (found : Option X) (x : X) → written_as write body found ≡ Some x → write x ≡ body
written_is write body None x is = cc is
written_is write body (Some y) x is =
    elim (bytes_eq (write y) body) as (λ b. bytes_eq (write y) body ≡ b → cond b (Some y) None ≡ Some x → write x ≡ body) [
      | true ↦ λ same some. subst (λ z. write z ≡ body) (some_same y x some) ((bytes_decides (write y) body).0 same)
      | false ↦ λ other none. cc none
    ] refl is

said_by : {X : Type 0} (write : X → List ℕ) (read : Doc → Option X) (body : List ℕ) (found : Option Doc) (x : X) → option_and_then (λ doc. written_as write body (read doc)) found ≡ Some x → write x ≡ body
said_by write read body None x is = cc is
said_by write read body (Some doc) x is = written_is write body (read doc) x is

document_is : (body : List ℕ) (doc : Doc) → document_in body ≡ Some doc → text doc ≡ body
document_is body doc is =
    elim (is_compact body) as (λ b. is_compact body ≡ b → cond b (Some (spelled body)) None ≡ Some doc → text doc ≡ body) [
      | true ↦ λ same some.
          subst (λ d. text d ≡ body) (some_same (spelled body) doc some)
          ((bytes_decides (text (spelled body)) body).0 (and_parts (is_doc (spelled body)) (bytes_eq (text (spelled body)) body) same).1)
      | false ↦ λ other none. cc none
    ] refl is

kept_doc : {X : Type 0} (found : Option X) (own doc : Doc) → option_map (λ _. own) found ≡ Some doc → own ≡ doc
kept_doc None own doc is = cc is
kept_doc (Some x) own doc is = some_same own doc is

stored_by : (keep : Doc → Option Doc) (body : List ℕ) (doc : Doc) (found : Option Doc) → document_in body ≡ found → option_and_then (λ own. if_stored body own (keep own)) found ≡ Some doc → text doc ≡ body
stored_by keep body doc None at is = cc is
stored_by keep body doc (Some own) at is = document_is body doc (at ∙ ap Some (kept_doc (written_as text body (keep own)) own doc is))

-- ---- a file

marked_by : (mark : ℕ) (bytes : List ℕ) (x : Stored) → file_behind mark bytes ≡ Some x → file_body x ≡ mark ∷ bytes
marked_by mark bytes x is =
    elim (nat_eq mark 48) as (λ b. nat_eq mark 48 ≡ b → cond b (Some (record { file = bytes; committed = false })) (cond (nat_eq mark 49) (Some (record { file = bytes; committed = true })) None) ≡ Some x → file_body x ≡ mark ∷ bytes) [
      | true ↦ λ same some. ap file_body (sym (some_same _ x some)) ∙ ap (λ m. m ∷ bytes) (sym (nat_same mark 48 same))
      | false ↦ λ other rest.
          elim (nat_eq mark 49) as (λ b. nat_eq mark 49 ≡ b → cond b (Some (record { file = bytes; committed = true })) None ≡ Some x → file_body x ≡ mark ∷ bytes) [
            | true ↦ λ same some. ap file_body (sym (some_same _ x some)) ∙ ap (λ m. m ∷ bytes) (sym (nat_same mark 49 same))
            | false ↦ λ other none. cc none
          ] refl rest
    ] refl is

file_is : (body : List ℕ) (x : Stored) → file_in body ≡ Some x → file_body x ≡ body
file_is [] x is = cc is
file_is (mark ∷ bytes) x is = marked_by mark bytes x is

-- ---- values

-- where a reading of the body says the same as what stands there, the body is what is written of it
module _ {X : Type 0} (write : X → List ℕ) (make : X → Content) (inj : (x y : X) → make x ≡ make y → x ≡ y) (body : List ℕ) (read : Option X) (is_written : (x : X) → read ≡ Some x → write x ≡ body) (content : Content) where
  value_by : (found again : Option X) → read ≡ again → option_map make again ≡ Some content → option_map make found ≡ Some content → option_map write found ≡ Some body
  value_by None None at said there_is = cc said
  value_by (Some x) None at said there_is = cc said
  value_by None (Some y) at said there_is = cc there_is
  value_by (Some x) (Some y) at said there_is =
      ap (λ z. Some (write z)) (inj x y (some_same (make x) content there_is ∙ sym (some_same (make y) content said))) ∙ ap Some (is_written y at)

name_by : (name body : List ℕ) (content : Content) → cond (bytes_eq body (name_body name)) (Some name_alone) None ≡ Some content → name_body name ≡ body
name_by name body content is =
    elim (bytes_eq body (name_body name)) as (λ b. bytes_eq body (name_body name) ≡ b → cond b (Some name_alone) None ≡ Some content → name_body name ≡ body) [
      | true ↦ λ same _. sym ((bytes_decides body (name_body name)).0 same)
      | false ↦ λ other none. cc none
    ] refl is

tested_by : (name body : List ℕ) (test : Bool) (content : Content) → name_body name ≡ body → cond test (Some name_alone) None ≡ Some content → cond test (Some (name_body name)) None ≡ Some body
tested_by name body true content same is = ap Some same
tested_by name body false content same is = cc is

named_by : {X : Type 0} (name body : List ℕ) (found : Option X) (content : Content) → name_body name ≡ body → option_map (λ _. name_alone) found ≡ Some content → option_map (λ _. name_body name) found ≡ Some body
named_by name body None content same is = cc is
named_by name body (Some x) content same is = ap Some same

pub gives : ContentsGiveBodies
gives o files itself body content says at =
    value_by count_body count (λ x y same. cc same) body (said count_body count_in body) (λ x is. said_by count_body count_in body (document_in body) x is) content (Some files.count) (said count_body count_in body) refl says at
gives o files (object k) body content says at =
    value_by text document (λ x y same. cc same) body (stored_in (object_stored k.kind k.name) body) (λ x is. stored_by (object_stored k.kind k.name) body x (document_in body) refl is) content (finite.get o.objects k) (stored_in (object_stored k.kind k.name) body) refl says at
gives o files (user name) body content says at = tested_by name body (set.contains o.membership.users name) content (name_by name body content says) at
gives o files (group name) body content says at =
    value_by (group_body name) members (λ x y same. cc same) body (said (group_body name) members_in body) (λ x is. said_by (group_body name) members_in body (document_in body) x is) content (finite.get o.membership.groups name) (said (group_body name) members_in body) refl says at
gives o files (container name) body content says at = named_by name body (container_named name) content (name_by name body content says) at
gives o files (version name number) body content says at =
    value_by text document (λ x y same. cc same) body (stored_in (λ d. given (stored_from name number d)) body) (λ x is. stored_by (λ d. given (stored_from name number d)) body x (document_in body) refl is) content (value_at o.shelved.cookbooks name number) (stored_in (λ d. given (stored_from name number d)) body) refl says at
gives o files (artifact name id) body content says at =
    value_by text document (λ x y same. cc same) body (stored_in (λ d. given (artifact_stored_from name id d)) body) (λ x is. stored_by (λ d. given (artifact_stored_from name id d)) body x (document_in body) refl is) content (value_at o.shelved.artifacts name id) (stored_in (λ d. given (artifact_stored_from name id d)) body) refl says at
gives o files (revision policy id) body content says at =
    value_by text document (λ x y same. cc same) body (stored_in (revision_stored policy id) body) (λ x is. stored_by (revision_stored policy id) body x (document_in body) refl is) content (value_at o.shelved.policies policy id) (stored_in (revision_stored policy id) body) refl says at
gives o files (policy_group name) body content says at =
    value_by assigned_body assigned (λ x y same. cc same) body (said assigned_body assigned_in body) (λ x is. said_by assigned_body assigned_in body (document_in body) x is) content (finite.get o.shelved.groups name) (said assigned_body assigned_in body) refl says at
gives o files (acl k) body content says at =
    value_by acl_body list (λ x y same. cc same) body (said acl_body acl_in body) (λ x is. said_by acl_body acl_in body (document_in body) x is) content (finite.get o.lists k) (said acl_body acl_in body) refl says at
gives o files (sandbox id) body content says at =
    value_by sandbox_body sums (λ x y same. cc same) body (said sandbox_body sums_in body) (λ x is. said_by sandbox_body sums_in body (document_in body) x is) content (finite.get files.sandboxes id) (said sandbox_body sums_in body) refl says at
gives o files (file sum) body content says at =
    value_by file_body stored (λ x y same. cc same) body (file_in body) (λ x is. file_is body x is) content (finite.get files.files sum) (file_in body) refl says at

pub say : BodiesSayContents
say o files legal_is locks place body is = said_at o files legal_is.conditions legal_is.typed locks legal_is.typed_files place body is
