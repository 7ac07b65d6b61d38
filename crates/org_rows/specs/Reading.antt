-- What the body of a row says, kind by kind. A body is good where it is just what is written of what it says.
use Rattle.std.specs.Prelude.{ℕ, pos, nat_le, nat_eq, ◌^◌, ◌-◌, ℤ, negsuc, List, [], ◌∷◌, Bool, true, false, ◌&&◌, cond, bytes_eq, codes, Option, Some, None, option_map, option_and_then, Result, Ok, Err}
use Rattle.std.specs.FinMap as finite
use Rattle.std.specs.FinMap.Entries.{is_sorted}
use Rattle.std.specs.List.{list_all}
use Rattle.std.specs.Str.{is_utf8}
use Rattle.doc_tree.specs.Doc.{Doc, null, boolean, whole, words, list, dict, Docs, no_docs, then_doc, Pairs, no_pairs, then_pair, pairs_list}
use Rattle.doc_tree.specs.Part.{part_at}
use Rattle.doc_tree.specs.Text.{text_cmp, text_of}
use Rattle.doc_tree.specs.Tree.{doc_of}
use Rattle.doc_tree.specs.Written.{text}
use Rattle.doc_tree.specs.declared.kind.Kind.{Kind}
use Rattle.doc_tree.specs.declared.kind.Kind.TheVariants as kinds
use Rattle.compact_json.specs.Compact.{spelled}
use Rattle.membership.specs.Lists.{members_of}
use Rattle.membership.specs.Members.{Members}
use Rattle.membership.specs.TextSets.{in_order}
use Rattle.membership.specs.TextTrees.{texts_in}
use Rattle.access_lists.specs.Forms.{acl_in}
use Rattle.object_forms.specs.Objects.{object_from, name_in}
use Rattle.org_shelves.specs.Shelved.{Assigned}
use Rattle.org_shelves.specs.StoredManifests.{stored_from, artifact_stored_from}
use Rattle.policy_locks.specs.Reading.{lock_from}
use Rattle.policy_locks.specs.declared.lock.Lock.{Lock}
use Rattle.sandboxes.specs.Checksums.{is_checksum}
use Rattle.sandboxes.specs.Sums.{Sums}
use Rattle.sandboxes.specs.declared.stored.Stored.{Stored}
use Rattle.org_rows.specs.Bodies.{acl_body, assigned_body, count_body, group_body, name_body, sandbox_body}
use Rattle.org_rows.specs.Places.{Place, itself, object, user, group, container, version, artifact, revision, policy_group, acl, sandbox, file, split_at_slash}
use Rattle.org_rows.specs.Things.{Content, count, document, name_alone, members, assigned, list as a_list, sums, stored}

-- ---- the document that a body is the compact text of

-- from -2^63 to 2^64 - 1
abbrev pub is_whole : ℤ → Bool
is_whole (pos n) = nat_le n (2 ^ 64 - 1)
is_whole (negsuc n) = nat_le n (2 ^ 63 - 1)

abbrev mutual
  -- its numbers are whole, its texts are UTF-8, and the keys of each of its dicts come once and in order
  pub is_doc : Doc → Bool
  is_doc null = true
  is_doc (boolean b) = true
  is_doc (whole z) = is_whole z
  is_doc (words s) = is_utf8 s
  is_doc (list ds) = are_docs ds
  is_doc (dict ps) = are_pairs ps && is_sorted text_cmp (pairs_list ps)

  -- each of these is such a document
  pub are_docs : Docs → Bool
  are_docs no_docs = true
  are_docs (then_doc d ds) = is_doc d && are_docs ds

  -- each of these keys is UTF-8, and each document such a one
  pub are_pairs : Pairs → Bool
  are_pairs no_pairs = true
  are_pairs (then_pair k d ps) = is_utf8 k && (is_doc d && are_pairs ps)

-- the body is the compact text of a document, however deep
abbrev pub is_compact : List ℕ → Bool
is_compact body = is_doc (spelled body) && bytes_eq (text (spelled body)) body

-- that document
abbrev pub document_in : List ℕ → Option Doc
document_in body = cond (is_compact body) (Some (spelled body)) None

-- ---- what a document says

-- what was found, where the body is what is written of it
abbrev pub written_as : {A : Type 0} → (A → List ℕ) → List ℕ → Option A → Option A
written_as write body None = None
written_as write body (Some found) = cond (bytes_eq (write found) body) (Some found) None

-- what this reading finds in the body's document, where the body is what is written of it
abbrev pub said : {A : Type 0} → (A → List ℕ) → (Doc → Option A) → List ℕ → Option A
said write read body = option_and_then (λ doc. written_as write body (read doc)) (document_in body)

-- a whole number from 0
abbrev pub number_in : Doc → Option ℕ
number_in null = None
number_in (boolean b) = None
number_in (whole (pos n)) = Some n
number_in (whole (negsuc n)) = None
number_in (words s) = None
number_in (list ds) = None
number_in (dict ps) = None

-- the count of sandboxes
abbrev pub count_in : Doc → Option ℕ
count_in doc = option_and_then number_in (part_at (codes "sandboxes") doc)

-- the texts of the list at a key
abbrev pub texts_at : List ℕ → Doc → Option (List (List ℕ))
texts_at key doc = option_and_then texts_in (part_at key doc)

-- the members that three lists name
abbrev pub members_among : Doc → Option Members
members_among doc =
    option_and_then (λ clients. option_and_then (λ groups. option_map (λ users. members_of users clients groups)
    (texts_at (codes "users") doc)) (texts_at (codes "groups") doc)) (texts_at (codes "clients") doc)

-- the members of a group
abbrev pub members_in : Doc → Option Members
members_in doc = option_and_then members_among (part_at (codes "actors") doc)

-- each key with the text that stands at it
abbrev pub texts_by_key : Pairs → Option (List (List ℕ × List ℕ))
texts_by_key no_pairs = Some []
texts_by_key (then_pair key doc rest) = option_and_then (λ text. option_map (λ texts. (key, text) ∷ texts) (texts_by_key rest)) (text_of doc)

-- the pairs of a dict
abbrev pub dict_in : Doc → Option Pairs
dict_in null = None
dict_in (boolean b) = None
dict_in (whole z) = None
dict_in (words s) = None
dict_in (list ds) = None
dict_in (dict ps) = Some ps

-- the policies that a group assigns, each with its revision
abbrev pub assigned_in : Doc → Option Assigned
assigned_in doc =
    option_map (λ texts. finite.from_entries {R = text_cmp} texts) (option_and_then texts_by_key (option_and_then dict_in (part_at (codes "policies") doc)))

-- checksums, in order and each once
abbrev pub checksums_among : List (List ℕ) → Option Sums
checksums_among texts = cond (list_all is_checksum texts) (Some (in_order texts)) None

-- the checksums of a sandbox
abbrev pub sums_in : Doc → Option Sums
sums_in doc = option_and_then checksums_among (texts_at (codes "checksums") doc)

-- ---- the document of an object, a version, an artifact, a revision

-- what was given, if anything
abbrev pub given : {A F : Type 0} → Result A F → Option A
given (Ok x) = Some x
given (Err fault) = None

-- the item, where it has the id that its name ends with
abbrev pub item_of : List ℕ → Doc → Option Doc
item_of name doc = option_and_then (λ parts. option_and_then (λ id. cond (bytes_eq id parts.1) (Some doc) None) (name_in kinds.Item doc)) (split_at_slash name)

-- what is stored of an object of this kind and name that a document gives
abbrev pub object_stored : Kind → List ℕ → Doc → Option Doc
object_stored kinds.Item name doc = item_of name doc
object_stored kind name doc = given (object_from kind (Some name) doc)

-- what is stored of a lock of this revision
abbrev pub lock_stored : List ℕ → Lock → Option Doc
lock_stored id lock = cond (bytes_eq lock.revision_id id) (Some (doc_of lock.whole)) None

-- what is stored of the lock of a policy that a document gives, where it is of this revision
abbrev pub revision_stored : List ℕ → List ℕ → Doc → Option Doc
revision_stored policy id doc = option_and_then (lock_stored id) (given (lock_from (Some policy) doc))

-- the document, where the body is the text of what is stored of it
abbrev pub if_stored : List ℕ → Doc → Option Doc → Option Doc
if_stored body doc kept = option_map (λ _. doc) (written_as text body kept)

-- the document of a body, where it is what is stored of itself
abbrev pub stored_in : (Doc → Option Doc) → List ℕ → Option Doc
stored_in keep body = option_and_then (λ doc. if_stored body doc (keep doc)) (document_in body)

-- ---- the body of a file

-- the file behind a mark: `0`, or `1` where it is committed
abbrev pub file_behind : ℕ → List ℕ → Option Stored
file_behind mark bytes =
    cond (nat_eq mark 48) (Some (record { file = bytes; committed = false })) (cond (nat_eq mark 49) (Some (record { file = bytes; committed = true })) None)

-- a file with its mark
abbrev pub file_in : List ℕ → Option Stored
file_in [] = None
file_in (mark ∷ bytes) = file_behind mark bytes

-- ---- what the body of a row of this place says, if it is a body of its kind

abbrev pub content_at : Place → List ℕ → Option Content
content_at itself body = option_map count (said count_body count_in body)
content_at (object k) body = option_map document (stored_in (object_stored k.kind k.name) body)
content_at (user name) body = cond (bytes_eq body (name_body name)) (Some name_alone) None
content_at (group name) body = option_map members (said (group_body name) members_in body)
content_at (container name) body = cond (bytes_eq body (name_body name)) (Some name_alone) None
content_at (version name number) body = option_map document (stored_in (λ doc. given (stored_from name number doc)) body)
content_at (artifact name id) body = option_map document (stored_in (λ doc. given (artifact_stored_from name id doc)) body)
content_at (revision policy id) body = option_map document (stored_in (revision_stored policy id) body)
content_at (policy_group name) body = option_map assigned (said assigned_body assigned_in body)
content_at (acl k) body = option_map a_list (said acl_body acl_in body)
content_at (sandbox id) body = option_map sums (said sandbox_body sums_in body)
content_at (file sum) body = option_map stored (file_in body)
