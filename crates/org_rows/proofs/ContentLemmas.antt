-- What the bodies of a legal organisation's rows say is what stands there.
use Rattle.std.proofs.Common.{◌≡◌, ℕ, pos, negsuc, ℤ, Bool, true, false, cond, ◌&&◌, List, [], ◌∷◌, bytes_eq, Option, Some, None, option_map, option_and_then, Ok, refl, sym, ap, ◌∙◌, arith}
use Rattle.std.specs.Cmp.Lexicographic.{bytes_decides}
use Rattle.std.proofs.lemmas.Int.{ints}
use Rattle.std.proofs.lemmas.Str.{is_utf8-from_IsUtf8}
use Rattle.std.specs.FinMap as finite
use Rattle.std.specs.FinMap.Entries.{below_all, is_sorted}
use Rattle.std.specs.FinSet as set
use Rattle.std.specs.List.{AllByRecursion}
use Rattle.std.specs.List.Sorted.{IsStrictlySortedBy}
use Rattle.std.specs.Map.{keys_of}
use Rattle.std.specs.Ordering.{is_lt}
use Rattle.std.specs.declared.cmp.Ordering.TheVariants.{Less}
use Rattle.compact_json.proofs.CompactLemmas.{spelled-text}
use Rattle.compact_json.specs.Compact.{spelled}
use Rattle.cookbook_meta.specs.Faults.{then_do}
use Rattle.doc_tree.specs.Doc.{Doc, null, boolean, whole, words, list, dict, Docs, no_docs, then_doc, Pairs, no_pairs, then_pair, pairs_list}
use Rattle.doc_tree.specs.Number.{IsWhole}
use Rattle.doc_tree.specs.Text.{text_cmp}
use Rattle.doc_tree.specs.Tree.{doc_of}
use Rattle.doc_tree.specs.Valid.{IsDoc, AreDocs, ArePairs}
use Rattle.doc_tree.specs.Written.{text}
use Rattle.doc_tree.specs.declared.kind.Kind.{Kind}
use Rattle.doc_tree.specs.declared.kind.Kind.TheVariants as kinds
use Rattle.access_lists.specs.Forms.{acl_doc, acl_in}
use Rattle.access_lists.specs.Starting.{container_named}
use Rattle.object_forms.specs.Objects.{name_in}
use Rattle.org_core.specs.Conditions.{MeetsConditions}
use Rattle.org_core.specs.ObjectConditions.{IsStored, IsItem}
use Rattle.org_core.specs.States.{Organisation}
use Rattle.org_shelves.specs.StoredManifests.{IsStored as IsStoredManifest, IsStoredArtifact, stored_from, artifact_stored_from}
use Rattle.sandboxes.specs.Sandboxes.{Holding}
use Rattle.sandboxes.specs.declared.stored.Stored.{Stored}
use Rattle.version_rules.specs.declared.versions.Version.{Version}
use Rattle.shelves.specs.Shelves.{value_at}
use Rattle.org_rows.specs.Bodies.{body_in, file_body, name_body, group_body, count_body, assigned_body, acl_body, sandbox_body}
use Rattle.org_rows.specs.Contents.{content_in}
use Rattle.org_rows.specs.Legal.{AreTypedFiles, IsLockOf, IsTyped}
use Rattle.org_rows.specs.Places.{Place, itself, object, user, group, container, version, artifact, revision, policy_group, acl, sandbox, file, split_at_slash}
use Rattle.org_rows.specs.Reading.{are_docs, are_pairs, assigned_in, content_at, count_in, document_in, file_behind, file_in, given, if_stored, is_compact, is_doc, is_whole, item_of, lock_stored, members_in, object_stored, revision_stored, said, stored_in, sums_in, written_as}
use Rattle.org_rows.specs.Things.{Content, count, document, name_alone, members, assigned, list as a_list, sums, stored}
use Rattle.org_rows.proofs.BodyLemmas.{IsDoc-acl, IsDoc-assigned, IsDoc-count, IsDoc-members, IsDoc-sums, acl_reads, assigned_back, assigned_doc, count_back, count_doc, members_back, members_doc, sums_back, sums_doc}
use Rattle.org_rows.proofs.LegalLemmas as legal
use Rattle.org_rows.proofs.SameLemmas.{assigned_good, list_good, members_good}
use Rattle.org_rows.proofs.TextLemmas.{IsUtf8-name, name_bytes}
use Rattle.org_rows.proofs.WordLemmas.{some_same, split-slashed}

both_true : (a b : Bool) → a ≡ true → b ≡ true → (a && b) ≡ true
both_true a b first second = ap (λ x. x && b) first ∙ second

same_text : (text : List ℕ) → bytes_eq text text ≡ true
same_text text = (bytes_decides text text).1 refl

-- ---- the test of documents

whole_true : (z : ℤ) → IsWhole z → is_whole z ≡ true
whole_true (pos n) is = grind (arith, ints, is.1)
whole_true (negsuc n) is = grind (arith, ints, is.0)

above_true : {X : Type 0} (k : List ℕ) (es : List (List ℕ × X)) → AllByRecursion (λ other. text_cmp k other ≡ Less) (keys_of es) → below_all text_cmp k es ≡ true
above_true k [] all = refl
above_true k (e ∷ es) all = both_true (is_lt (text_cmp k e.0)) (below_all text_cmp k es) (ap is_lt all.0) (above_true k es all.1)

sorted_true : {X : Type 0} (es : List (List ℕ × X)) → IsStrictlySortedBy text_cmp (keys_of es) → is_sorted text_cmp es ≡ true
unfolding IsStrictlySortedBy
sorted_true [] sorted = refl
sorted_true (e ∷ es) sorted = both_true (below_all text_cmp e.0 es) (is_sorted text_cmp es) (above_true e.0 es sorted.0) (sorted_true es sorted.1)

mutual
  pub doc_true : (d : Doc) → IsDoc d → is_doc d ≡ true
  doc_true null is = refl
  doc_true (boolean b) is = refl
  doc_true (whole z) is = whole_true z is
  doc_true (words s) is = is_utf8-from_IsUtf8 s is
  doc_true (list ds) is = docs_true ds is
  doc_true (dict ps) is = both_true (are_pairs ps) (is_sorted text_cmp (pairs_list ps)) (pairs_true ps is.0) (sorted_true (pairs_list ps) is.1)

  docs_true : (ds : Docs) → AreDocs ds → are_docs ds ≡ true
  docs_true no_docs are = refl
  docs_true (then_doc d ds) are = both_true (is_doc d) (are_docs ds) (doc_true d are.0) (docs_true ds are.1)

  pairs_true : (ps : Pairs) → ArePairs ps → are_pairs ps ≡ true
  pairs_true no_pairs are = refl
  pairs_true (then_pair k d ps) are =
      both_true _ (is_doc d && are_pairs ps) (is_utf8-from_IsUtf8 k are.0) (both_true (is_doc d) (are_pairs ps) (doc_true d are.1) (pairs_true ps are.2))

compact_true : (d : Doc) → IsDoc d → is_compact (text d) ≡ true
compact_true d is =
    both_true (is_doc (spelled (text d))) (bytes_eq (text (spelled (text d))) (text d)) (ap is_doc (spelled-text d is) ∙ doc_true d is)
    (ap (λ e. bytes_eq (text e) (text d)) (spelled-text d is) ∙ same_text (text d))

-- the text of a document is the body of that document
pub document_back : (d : Doc) → IsDoc d → document_in (text d) ≡ Some d
document_back d is = ap (λ b. cond b (Some (spelled (text d))) None) (compact_true d is) ∙ ap Some (spelled-text d is)

-- ---- what is written is said

module _ {X : Type 0} (write : X → Doc) (read : Doc → Option X) (x : X) (is : IsDoc (write x)) (back : read (write x) ≡ Some x) where
  pub said_is : said (λ y. text (write y)) read (text (write x)) ≡ Some x
  said_is =
      ap (option_and_then (λ doc. written_as (λ y. text (write y)) (text (write x)) (read doc))) (document_back (write x) is)
      ∙ ap (written_as (λ y. text (write y)) (text (write x))) back
      ∙ ap (λ b. cond b (Some x) None) (same_text (text (write x)))

-- and a document that is what is stored of itself is told by its text
pub stored_is : (keep : Doc → Option Doc) (d : Doc) → IsDoc d → keep d ≡ Some d → stored_in keep (text d) ≡ Some d
stored_is keep d is same =
    ap (option_and_then (λ doc. if_stored (text d) doc (keep doc))) (document_back d is)
    ∙ ap (if_stored (text d) d) same
    ∙ ap (λ b. option_map (λ _. d) (cond b (Some d) None)) (same_text (text d))

-- ---- objects

item_kept : (name : List ℕ) (doc : Doc) → IsItem name doc → item_of name doc ≡ Some doc
item_kept name doc is =
    let split : split_at_slash name ≡ Some (is.0, is.1) = ap split_at_slash (is.2 ∙ legal.item_names is.0 is.1) ∙ split-slashed is.0 is.1 (name_bytes is.0 is.3) in
    ap (option_and_then (λ (parts : List ℕ × List ℕ). option_and_then (λ found. cond (bytes_eq found parts.1) (Some doc) None) (name_in kinds.Item doc))) split
    ∙ ap (option_and_then (λ found. cond (bytes_eq found is.1) (Some doc) None)) is.5
    ∙ ap (λ b. cond b (Some doc) None) (same_text is.1)

object_kept : (kind : Kind) (name : List ℕ) (doc : Doc) → IsStored kind name doc → object_stored kind name doc ≡ Some doc
object_kept kinds.Org name doc is = absurd is
object_kept kinds.Node name doc is = ap given is.1
object_kept kinds.Role name doc is = ap given is.1
object_kept kinds.Environment name doc is = ap given is.1
object_kept kinds.Bag name doc is = ap given is.1
object_kept kinds.Client name doc is = ap given is.1
object_kept kinds.User name doc is = absurd is
object_kept kinds.Group name doc is = absurd is
object_kept kinds.Container name doc is = absurd is
object_kept kinds.Item name doc is = item_kept name doc is
object_kept kinds.Cookbook name doc is = absurd is
object_kept kinds.Artifact name doc is = absurd is
object_kept kinds.Policy name doc is = absurd is
object_kept kinds.PolicyGroup name doc is = absurd is
object_kept kinds.Acl name doc is = absurd is
object_kept kinds.Sandbox name doc is = absurd is
object_kept kinds.File name doc is = absurd is

-- ---- shelves

version_kept : (name : List ℕ) (number : Version) (doc : Doc) → IsStoredManifest name number doc → given (stored_from name number doc) ≡ Some doc
version_kept name number doc is = ap (λ r. given (then_do r (λ m. Ok (doc_of m.whole)))) is.read ∙ ap Some is.whole

artifact_kept : (name id : List ℕ) (doc : Doc) → IsStoredArtifact name id doc → given (artifact_stored_from name id doc) ≡ Some doc
artifact_kept name id doc is = ap (λ r. given (then_do r (λ m. Ok (doc_of m.whole)))) is.read ∙ ap Some is.whole

revision_kept : (policy id : List ℕ) (doc : Doc) → IsLockOf policy id doc → revision_stored policy id doc ≡ Some doc
revision_kept policy id doc is =
    ap (λ r. option_and_then (lock_stored id) (given r)) is.given
    ∙ ap (λ b. cond b (Some (doc_of is.lock.whole)) None) ((bytes_decides is.lock.revision_id id).1 is.revision_is)
    ∙ ap Some is.whole

-- ---- files

file_kept : (mark : Bool) (found : Stored) → found.committed ≡ mark → file_behind (cond mark 49 48) found.file ≡ Some found
file_kept true found same = λ i. Some (record { file = found.file; committed = sym same i })
file_kept false found same = λ i. Some (record { file = found.file; committed = sym same i })

pub file_back : (found : Stored) → file_in (file_body found) ≡ Some found
file_back found = file_kept found.committed found refl

-- ---- all places

module _ (o : Organisation) (files : Holding) (meets : MeetsConditions (Some o)) (typed : IsTyped o) (locks : (policy id : List ℕ) (doc : Doc) → value_at o.shelved.policies policy id ≡ Some doc → IsLockOf policy id doc) (typed_files : AreTypedFiles files) where
  -- what is written of a value says what is made of it
  module _ {X : Type 0} (write : X → List ℕ) (make : X → Content) (said_of : List ℕ → Option Content) (body : List ℕ) where
    said_value : (found : Option X) → ((x : X) → found ≡ Some x → said_of (write x) ≡ Some (make x)) → option_map write found ≡ Some body → said_of body ≡ option_map make found
    said_value None each is = cc is
    said_value (Some x) each is = ap said_of (sym (some_same (write x) body is)) ∙ each x refl

  name_said : (name body : List ℕ) (test : Bool) → cond test (Some (name_body name)) None ≡ Some body → cond (bytes_eq body (name_body name)) (Some name_alone) None ≡ cond test (Some name_alone) None
  name_said name body false is = cc is
  name_said name body true is = ap (λ b. cond b (Some name_alone) None) ((bytes_decides body (name_body name)).1 (sym (some_same (name_body name) body is)))

  pub said_at : (place : Place) (body : List ℕ) → body_in o files place ≡ Some body → content_at place body ≡ content_in o files place
  said_at itself body is =
      ap (content_at itself) (sym (some_same (count_body files.count) body is))
      ∙ ap (option_map count) (said_is count_doc count_in files.count (IsDoc-count files.count typed_files.count) (count_back files.count typed_files.count))
  said_at (object k) body is =
      said_value text document (content_at (object k)) body (finite.get o.objects k)
      (λ doc at. ap (option_map document) (stored_is (object_stored k.kind k.name) doc (typed.objects k doc at) (object_kept k.kind k.name doc (meets.0.stored k doc at)))) is
  said_at (user name) body is = name_said name body (set.contains o.membership.users name) is
  said_at (group name) body is =
      said_value (group_body name) members (content_at (group name)) body (finite.get o.membership.groups name)
      (λ found at.
      let utf8 = IsUtf8-name name (legal.group_name o meets typed name found at) in
      let good = members_good o meets typed name found at in
      ap (option_map members) (said_is (members_doc name utf8) members_in found (IsDoc-members name utf8 found good) (members_back name utf8 found good))) is
  said_at (container name) body is =
      said_value (λ _. name_body name) (λ _. name_alone) (content_at (container name)) body (container_named name) (λ _ _. ap (λ b. cond b (Some name_alone) None) (same_text (name_body name))) is
  said_at (version name number) body is =
      said_value text document (content_at (version name number)) body (value_at o.shelved.cookbooks name number)
      (λ doc at. ap (option_map document) (stored_is (λ d. given (stored_from name number d)) doc (typed.versions name number doc at).0 (version_kept name number doc (meets.1.1.1.versions name number doc at).1))) is
  said_at (artifact name id) body is =
      said_value text document (content_at (artifact name id)) body (value_at o.shelved.artifacts name id)
      (λ doc at. ap (option_map document) (stored_is (λ d. given (artifact_stored_from name id d)) doc (typed.artifacts name id doc at) (artifact_kept name id doc (meets.1.1.1.artifacts name id doc at).1))) is
  said_at (revision policy id) body is =
      said_value text document (content_at (revision policy id)) body (value_at o.shelved.policies policy id)
      (λ doc at. ap (option_map document) (stored_is (revision_stored policy id) doc (typed.revisions policy id doc at) (revision_kept policy id doc (locks policy id doc at)))) is
  said_at (policy_group name) body is =
      said_value assigned_body assigned (content_at (policy_group name)) body (finite.get o.shelved.groups name)
      (λ found at.
      let good = assigned_good o meets typed name found at in
      ap (option_map assigned) (said_is assigned_doc assigned_in found (IsDoc-assigned found good) (assigned_back found good))) is
  said_at (acl k) body is =
      said_value acl_body a_list (content_at (acl k)) body (finite.get o.lists k)
      (λ found at.
      let good = list_good o meets typed k found at in
      ap (option_map a_list) (said_is acl_doc acl_in found (IsDoc-acl found good) (acl_reads found good))) is
  said_at (sandbox id) body is =
      said_value sandbox_body sums (content_at (sandbox id)) body (finite.get files.sandboxes id)
      (λ found at.
      let good = typed_files.sums id found at in
      ap (option_map sums) (said_is sums_doc sums_in found (IsDoc-sums found good) (sums_back found good))) is
  said_at (file sum) body is =
      said_value file_body stored (content_at (file sum)) body (finite.get files.files sum) (λ found at. ap (option_map stored) (file_back found)) is
