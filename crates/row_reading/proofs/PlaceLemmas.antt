-- What is known of an object by the row that it is kept in.
use Rattle.std.proofs.Common.{◌≡◌, ℕ, List, Bool, true, false, ◌&&◌, cond, bytes_eq, Option, Some, None, option_and_then, Result, Ok, Err, refl, sym, ap, subst, ◌∙◌, true≢false}
use Rattle.std.proofs.lemmas.Bool.{and_parts}
use Rattle.std.specs.Cmp.Lexicographic.{bytes_decides}
use Rattle.cookbook_meta.specs.Parts.{is_identifier}
use Rattle.doc_tree.specs.Doc.{Doc}
use Rattle.doc_tree.specs.Name.{is_name}
use Rattle.doc_tree.specs.declared.kind.Kind.{Kind}
use Rattle.doc_tree.specs.declared.kind.Kind.TheVariants as kinds
use Rattle.object_forms.specs.Forms.{is_id}
use Rattle.object_forms.specs.Kinds.{IsFormed}
use Rattle.object_forms.specs.Objects.{name_in, object_from}
use Rattle.object_store.specs.Items.{item_name}
use Rattle.object_store.specs.Keys.{is_of, key}
use Rattle.object_store.specs.declared.key.Key.{Key}
use Rattle.org_core.specs.ObjectConditions.{IsItem, IsStored}
use Rattle.org_rows.specs.Places.{IsPlace, Place, acl, acl_place, artifact, item_place, kind_named, object, place_in, revision, split_at_slash, version, version_place, where_}
use Rattle.org_rows.specs.Reading.{given, item_of, object_stored}
use Rattle.org_rows.proofs.LegalLemmas.{item_names}
use Rattle.org_rows.proofs.WordLemmas.{split-whole}
use Rattle.version_rules.specs.Versions.{reads_version, version_text}
use Rattle.version_rules.specs.declared.fault.VersionFault.{VersionFault}
use Rattle.version_rules.specs.declared.versions.Version.{Version}

-- ---- where a place was found

where_is : (test : Bool) (place met : Place) → where_ test place ≡ Some met → (test ≡ true) × (place ≡ met)
where_is true place met is = (refl, cc is)
where_is false place met is = cc is

-- nothing but an object is one
abbrev IsObject : Place → Type 0
IsObject (object k) = Unit {0}
IsObject other = ⊥

not_object : (test : Bool) (place : Place) (k : Key) → where_ test place ≡ Some (object k) → (IsObject place → ⊥) → ⊥
not_object test place k is other = other (subst IsObject (sym (where_is test place (object k) is).1) tt)

-- what was made of the parts before and behind the first slash
record Split (make : List ℕ → List ℕ → Option Place) (name : List ℕ) (met : Place) : Type 0 where
  front : List ℕ
  back : List ℕ
  parts : split_at_slash name ≡ Some (front, back)
  made : make front back ≡ Some met

split_of : (make : List ℕ → List ℕ → Option Place) (name : List ℕ) (met : Place) (split : Option (List ℕ × List ℕ)) → split_at_slash name ≡ split → option_and_then (λ parts. make parts.0 parts.1) split ≡ Some met → Split make name met
split_of make name met None at is = cc is
split_of make name met (Some parts) at is = record { front = parts.0; back = parts.1; parts = at; made = is }

split_is : (make : List ℕ → List ℕ → Option Place) (name : List ℕ) (met : Place) → option_and_then (λ parts. make parts.0 parts.1) (split_at_slash name) ≡ Some met → Split make name met
split_is make name met is = split_of make name met (split_at_slash name) refl is

no_version : (front back : List ℕ) (read : Result Version VersionFault) (k : Key) → version_place front back read ≡ Some (object k) → ⊥
no_version front back (Ok read) k is = not_object (is_name front && bytes_eq (version_text read) back) (version front read) k is (λ i. i)
no_version front back (Err fault) k is = cc is

no_acl : (back : List ℕ) (kind : Option Kind) (k : Key) → acl_place back kind ≡ Some (object k) → ⊥
no_acl back None k is = cc is
no_acl back (Some kind) k is = not_object (is_name back) (acl (key kind back)) k is (λ i. i)

-- ---- objects that aren't items

-- the objects of the kind have a form, and the name that of a Name
abbrev IsFormedAs : Kind → List ℕ → Type 0
IsFormedAs kind name = IsFormed kind × (is_name name ≡ true)

actor_name : (a b : Bool) → (a && b) ≡ true → a ≡ true
actor_name a b is = (and_parts a b is).0

formed_at : (kind : Kind) (name : List ℕ) (k : Key) → place_in kind name ≡ Some (object k) → is_of kinds.Item (key kind name) ≡ false → IsFormedAs kind name
formed_at kinds.Org name k is other = absurd (not_object _ _ k is (λ i. i))
formed_at kinds.Node name k is other = (refl, (where_is _ _ (object k) is).0)
formed_at kinds.Role name k is other = (refl, (where_is _ _ (object k) is).0)
formed_at kinds.Environment name k is other = (refl, (where_is _ _ (object k) is).0)
formed_at kinds.Bag name k is other = (refl, (where_is _ _ (object k) is).0)
formed_at kinds.Client name k is other = (refl, actor_name _ _ (where_is _ _ (object k) is).0)
formed_at kinds.User name k is other = absurd (not_object _ _ k is (λ i. i))
formed_at kinds.Group name k is other = absurd (not_object _ _ k is (λ i. i))
formed_at kinds.Container name k is other = absurd (not_object _ _ k is (λ i. i))
formed_at kinds.Item name k is other = absurd (true≢false other)
formed_at kinds.Cookbook name k is other =
    let s = split_is (λ front back. version_place front back (reads_version back)) name (object k) is in
    absurd (no_version s.front s.back (reads_version s.back) k s.made)
formed_at kinds.Artifact name k is other =
    let s = split_is (λ front id. where_ (is_name front && is_identifier id) (artifact front id)) name (object k) is in
    absurd (not_object _ (artifact s.front s.back) k s.made (λ i. i))
formed_at kinds.Policy name k is other =
    let s = split_is (λ front id. where_ (is_name front && is_name id) (revision front id)) name (object k) is in
    absurd (not_object _ (revision s.front s.back) k s.made (λ i. i))
formed_at kinds.PolicyGroup name k is other = absurd (not_object _ _ k is (λ i. i))
formed_at kinds.Acl name k is other =
    let s = split_is (λ word back. acl_place back (kind_named word)) name (object k) is in
    absurd (no_acl s.back (kind_named s.front) k s.made)
formed_at kinds.Sandbox name k is other = absurd (not_object _ _ k is (λ i. i))
formed_at kinds.File name k is other = absurd (not_object _ _ k is (λ i. i))

pub formed : (k : Key) → IsPlace (object k) → is_of kinds.Item k ≡ false → IsFormedAs k.kind k.name
formed k is other = formed_at k.kind k.name k is other

-- of another kind than an item's, what is stored is what its table gives
pub stored_by_table : (kind : Kind) (name : List ℕ) (doc : Doc) → is_of kinds.Item (key kind name) ≡ false → object_stored kind name doc ≡ given (object_from kind (Some name) doc)
stored_by_table kinds.Org name doc other = refl
stored_by_table kinds.Node name doc other = refl
stored_by_table kinds.Role name doc other = refl
stored_by_table kinds.Environment name doc other = refl
stored_by_table kinds.Bag name doc other = refl
stored_by_table kinds.Client name doc other = refl
stored_by_table kinds.User name doc other = refl
stored_by_table kinds.Group name doc other = refl
stored_by_table kinds.Container name doc other = refl
stored_by_table kinds.Item name doc other = absurd (true≢false other)
stored_by_table kinds.Cookbook name doc other = refl
stored_by_table kinds.Artifact name doc other = refl
stored_by_table kinds.Policy name doc other = refl
stored_by_table kinds.PolicyGroup name doc other = refl
stored_by_table kinds.Acl name doc other = refl
stored_by_table kinds.Sandbox name doc other = refl
stored_by_table kinds.File name doc other = refl

-- and of an item it is the item of its id
pub stored_item : (kind : Kind) (name : List ℕ) (doc : Doc) → is_of kinds.Item (key kind name) ≡ true → object_stored kind name doc ≡ item_of name doc
stored_item kinds.Org name doc item = absurd (true≢false (sym item))
stored_item kinds.Node name doc item = absurd (true≢false (sym item))
stored_item kinds.Role name doc item = absurd (true≢false (sym item))
stored_item kinds.Environment name doc item = absurd (true≢false (sym item))
stored_item kinds.Bag name doc item = absurd (true≢false (sym item))
stored_item kinds.Client name doc item = absurd (true≢false (sym item))
stored_item kinds.User name doc item = absurd (true≢false (sym item))
stored_item kinds.Group name doc item = absurd (true≢false (sym item))
stored_item kinds.Container name doc item = absurd (true≢false (sym item))
stored_item kinds.Item name doc item = refl
stored_item kinds.Cookbook name doc item = absurd (true≢false (sym item))
stored_item kinds.Artifact name doc item = absurd (true≢false (sym item))
stored_item kinds.Policy name doc item = absurd (true≢false (sym item))
stored_item kinds.PolicyGroup name doc item = absurd (true≢false (sym item))
stored_item kinds.Acl name doc item = absurd (true≢false (sym item))
stored_item kinds.Sandbox name doc item = absurd (true≢false (sym item))
stored_item kinds.File name doc item = absurd (true≢false (sym item))

-- ---- what is stored of an object

given_ok : {A F : Type 0} (read : Result A F) (x : A) → given read ≡ Some x → read ≡ Ok x
given_ok (Ok y) x is = cc is
given_ok (Err fault) x is = cc is

id_is : (id : List ℕ) (doc : Doc) (found : Option (List ℕ)) → option_and_then (λ f. cond (bytes_eq f id) (Some doc) None) found ≡ Some doc → found ≡ Some id
id_is id doc None is = cc is
id_is id doc (Some f) is =
    elim (bytes_eq f id) as (λ b. bytes_eq f id ≡ b → cond b (Some doc) None ≡ Some doc → Some f ≡ Some id) [
      | true ↦ λ same _. ap Some ((bytes_decides f id).0 same)
      | false ↦ λ other none. cc none
    ] refl is

item_is : (name : List ℕ) (k : Key) (doc : Doc) → place_in kinds.Item name ≡ Some (object k) → item_of name doc ≡ Some doc → IsItem name doc
item_is name k doc is stored =
    let s = split_is item_place name (object k) is in
    let forms = and_parts (is_name s.front) (is_id s.back) (where_is _ _ (object k) s.made).0 in
    let whole : name ≡ item_name s.front s.back = sym (split-whole name s.front s.back s.parts) ∙ sym (item_names s.front s.back) in
    let here : option_and_then (λ f. cond (bytes_eq f s.back) (Some doc) None) (name_in kinds.Item doc) ≡ Some doc =
    sym (ap (option_and_then (λ (parts : List ℕ × List ℕ). option_and_then (λ f. cond (bytes_eq f parts.1) (Some doc) None) (name_in kinds.Item doc))) s.parts) ∙ stored in
    (s.front, s.back, whole, forms.0, forms.1, id_is s.back doc (name_in kinds.Item doc) here)

kept_at : (kind : Kind) (name : List ℕ) (k : Key) (doc : Doc) → place_in kind name ≡ Some (object k) → object_stored kind name doc ≡ Some doc → IsStored kind name doc
kept_at kinds.Org name k doc is stored = not_object _ _ k is (λ i. i)
kept_at kinds.Node name k doc is stored = ((where_is _ _ (object k) is).0, given_ok _ doc stored)
kept_at kinds.Role name k doc is stored = ((where_is _ _ (object k) is).0, given_ok _ doc stored)
kept_at kinds.Environment name k doc is stored = ((where_is _ _ (object k) is).0, given_ok _ doc stored)
kept_at kinds.Bag name k doc is stored = ((where_is _ _ (object k) is).0, given_ok _ doc stored)
kept_at kinds.Client name k doc is stored = (actor_name _ _ (where_is _ _ (object k) is).0, given_ok _ doc stored)
kept_at kinds.User name k doc is stored = not_object _ _ k is (λ i. i)
kept_at kinds.Group name k doc is stored = not_object _ _ k is (λ i. i)
kept_at kinds.Container name k doc is stored = not_object _ _ k is (λ i. i)
kept_at kinds.Item name k doc is stored = item_is name k doc is stored
kept_at kinds.Cookbook name k doc is stored =
    let s = split_is (λ front back. version_place front back (reads_version back)) name (object k) is in
    no_version s.front s.back (reads_version s.back) k s.made
kept_at kinds.Artifact name k doc is stored =
    let s = split_is (λ front id. where_ (is_name front && is_identifier id) (artifact front id)) name (object k) is in
    not_object _ (artifact s.front s.back) k s.made (λ i. i)
kept_at kinds.Policy name k doc is stored =
    let s = split_is (λ front id. where_ (is_name front && is_name id) (revision front id)) name (object k) is in
    not_object _ (revision s.front s.back) k s.made (λ i. i)
kept_at kinds.PolicyGroup name k doc is stored = not_object _ _ k is (λ i. i)
kept_at kinds.Acl name k doc is stored =
    let s = split_is (λ word back. acl_place back (kind_named word)) name (object k) is in
    no_acl s.back (kind_named s.front) k s.made
kept_at kinds.Sandbox name k doc is stored = not_object _ _ k is (λ i. i)
kept_at kinds.File name k doc is stored = not_object _ _ k is (λ i. i)

-- what is stored of itself under an object's key is what is stored of its kind
pub kept_is : (k : Key) (doc : Doc) → IsPlace (object k) → object_stored k.kind k.name doc ≡ Some doc → IsStored k.kind k.name doc
kept_is k doc is stored = kept_at k.kind k.name k doc is stored
