-- What stands in a legal state stands at a place, and its document is one that a tree can be.
use Rattle.std.proofs.Common.{◌≡◌, ℕ, Bool, true, false, not, ◌&&◌, ◌||◌, List, [], ◌∷◌, ◌++◌, codes, bytes_eq, is_some, if◌then◌else◌, Option, Some, None, option_and_then, Result, Ok, Err, refl, sym, ap, subst, ◌∙◌}
use Rattle.std.specs.Cmp.Lexicographic.{bytes_decides, nat_list_cmp_total}
use Rattle.std.specs.FinMap as finite
use Rattle.std.specs.FinSet as set
use Rattle.doc_tree.specs.Doc.{Doc, null, boolean, whole, words, list, dict, Pairs}
use Rattle.doc_tree.specs.Kind.{word_of}
use Rattle.doc_tree.specs.Name.{is_name}
use Rattle.doc_tree.specs.declared.kind.Kind.{Kind}
use Rattle.doc_tree.specs.declared.kind.Kind.TheVariants as kinds
use Rattle.membership.specs.Actors.{operator}
use Rattle.membership.specs.Actors as membership
use Rattle.membership.specs.Members.{Members}
use Rattle.membership.specs.declared.member_kind.MemberKind.TheVariants as member
use Rattle.access_lists.specs.Starting.{container_named, containers, name_of}
use Rattle.access_lists.specs.declared.acl.Acl.{Acl}
use Rattle.access_lists.specs.declared.starting.Container.{Container}
use Rattle.access_lists.specs.declared.starting.Container.TheVariants as each_container
use Rattle.object_forms.specs.Forms.{is_id}
use Rattle.object_store.specs.Items.{item_name}
use Rattle.object_store.specs.Keys.{key}
use Rattle.object_store.specs.declared.key.Key.{Key}
use Rattle.cookbook_meta.specs.Artifacts.{artifact_from, artifact_in, identifier_key, identifier_of, is_identified}
use Rattle.cookbook_meta.specs.Faults.{in_field, then_do}
use Rattle.cookbook_meta.specs.Fields.{are_as_asked, named_rows, stated_rows}
use Rattle.cookbook_meta.specs.Manifests.{metadata_of}
use Rattle.cookbook_meta.specs.Segments.{segments, with_segments}
use Rattle.cookbook_meta.specs.Stored.{metadata_key}
use Rattle.doc_tree.specs.Part.{pair_at}
use Rattle.cookbook_meta.specs.Parts.{is_identifier, needed, text_of, truth_of, version_of}
use Rattle.cookbook_meta.specs.declared.manifests.Manifest.{Manifest}
use Rattle.dep_solver.proofs.VersionLemmas.{versions_total}
use Rattle.org_core.specs.AccessConditions.{AccessConditions, HasItsClients, has_listed}
use Rattle.org_core.specs.Conditions.{MeetsConditions}
use Rattle.org_core.specs.ObjectConditions.{ObjectConditions, has, IsStored, IsItem}
use Rattle.org_core.specs.States.{Organisation}
use Rattle.org_shelves.specs.Conditions.{ShelfConditions}
use Rattle.org_shelves.specs.Shelved.{Assigned}
use Rattle.shelves.proofs.ShelfLaws.{has_shelf-value}
use Rattle.shelves.specs.Shelves.{has_shelf, value_at}
use Rattle.version_rules.specs.Versions.{reads_version, version_text}
use Rattle.version_rules.specs.declared.versions.Version.{Version}
use Rattle.version_rules.proofs.ReadBack.{versions_read_back}
use Rattle.org_rows.specs.Legal.{IsTyped}
use Rattle.org_rows.specs.Places.{Place, object, user, group, version, artifact, revision, policy_group, acl, IsPlace, item_place, place_in, slashed, split_as, version_place, where_}
use Rattle.org_rows.proofs.TextLemmas.{name_bytes}
use Rattle.org_rows.proofs.WordLemmas.{found, split-slashed, true_false}

-- ---- options and results

some_of : {X : Type 0} (o : Option X) → is_some o ≡ true → (x : X) × (o ≡ Some x)
some_of None is = true_false (sym is)
some_of (Some x) is = (x, refl)

then_ok : {A B F : Type 0} (r : Result A F) (next : A → Result B F) (x : B) → then_do r next ≡ Ok x → (y : A) × (r ≡ Ok y) × (next y ≡ Ok x)
then_ok (Ok y) next x is = (y, refl, is)
then_ok (Err f) next x is = cc is

kept_ok : {A F : Type 0} (test : Bool) (x : A) (fault : F) (y : A) → ◌≡◌ {A = Result A F} (if test then Ok x else Err fault) (Ok y) → (test ≡ true) × (x ≡ y)
kept_ok true x fault y is = (refl, cc is)
kept_ok false x fault y is = cc is

field_ok : (field id : List ℕ) (body : Pairs) (x : Unit {0}) → in_field field (then_do (needed field body) (is_identified id)) ≡ Ok x → then_do (needed field body) (is_identified id) ≡ Ok x
field_ok field id body x is =
    elim (then_do (needed field body) (is_identified id)) as (λ r. in_field field r ≡ Ok x → r ≡ Ok x) [
      | Ok y ↦ λ same. cc same
      | Err f ↦ λ same. cc same
    ] is

-- ---- artifacts

identifier_known : (d : Doc) (sent : List ℕ) → identifier_of d ≡ Ok sent → is_identifier sent ≡ true
identifier_known d sent is =
    let step = then_ok (text_of d) _ sent is in
    let keeps = kept_ok (is_identifier step.0) step.0 _ sent step.2 in
    subst (λ t. is_identifier t ≡ true) keeps.1 keeps.0

identified : (id : List ℕ) (d : Doc) (u : Unit {0}) → is_identified id d ≡ Ok u → is_identifier id ≡ true
identified id d u is =
    let step = then_ok (identifier_of d) _ u is in
    let keeps = kept_ok (bytes_eq step.0 id) tt _ u step.2 in
    subst (λ t. is_identifier t ≡ true) ((bytes_decides step.0 id).0 keeps.0) (identifier_known d step.0 step.1)

artifact_known : (name id : List ℕ) (body : Pairs) (m : Manifest) → artifact_in name id body ≡ Ok m → is_identifier id ≡ true
artifact_known name id body m is =
    let first = then_ok (are_as_asked (named_rows name) body) _ m is in
    let second = then_ok (in_field (codes "version") (then_do (needed (codes "version") body) version_of)) _ m first.2 in
    let third = then_ok (are_as_asked stated_rows body) _ m second.2 in
    let fourth = then_ok (in_field (codes "frozen?") (truth_of (pair_at (codes "frozen?") body))) _ m third.2 in
    let fifth = then_ok (in_field metadata_key (then_do (needed metadata_key body) (metadata_of name second.0))) _ m fourth.2 in
    let sixth = then_ok (with_segments segments body []) _ m fifth.2 in
    let seventh = then_ok (in_field identifier_key (then_do (needed identifier_key body) (is_identified id))) _ m sixth.2 in
    let sent = field_ok identifier_key id body seventh.0 seventh.1 in
    let own = then_ok (needed identifier_key body) (is_identified id) seventh.0 sent in
    identified id own.0 seventh.0 own.2

artifact_id : (name id : List ℕ) (d : Doc) (m : Manifest) → artifact_from name id d ≡ Ok m → is_identifier id ≡ true
artifact_id name id null m is = cc is
artifact_id name id (boolean b) m is = cc is
artifact_id name id (whole z) m is = cc is
artifact_id name id (words s) m is = cc is
artifact_id name id (list ds) m is = cc is
artifact_id name id (dict body) m is = artifact_known name id body m is

-- ---- forms of names

append-assoc : (xs : List ℕ) (c : ℕ) (ys : List ℕ) → (xs ++ c ∷ []) ++ ys ≡ xs ++ c ∷ ys
append-assoc [] c ys = refl
append-assoc (x ∷ xs) c ys = ap (λ t. x ∷ t) (append-assoc xs c ys)

both_true : (a b : Bool) → a ≡ true → b ≡ true → (a && b) ≡ true
both_true a b first second = ap (λ x. x && b) first ∙ second

pub item_names : (bag id : List ℕ) → item_name bag id ≡ slashed bag id
item_names bag id = append-assoc bag 47 id

-- where what stands before the slash is a Name, the name is split there
pub split_as-slashed : (make : List ℕ → List ℕ → Option Place) (front back : List ℕ) → is_name front ≡ true → split_as make (slashed front back) ≡ make front back
split_as-slashed make front back is = ap (option_and_then (λ parts. make parts.0 parts.1)) (split-slashed front back (name_bytes front is))

item_at : (name : List ℕ) (object_is : Doc) → IsItem name object_is → IsPlace (object (key kinds.Item name))
item_at name object_is is =
    subst (λ n. IsPlace (object (key kinds.Item n))) (sym (is.2 ∙ item_names is.0 is.1))
    (split_as-slashed item_place is.0 is.1 is.3 ∙ ap (λ b. where_ b (object (key kinds.Item (slashed is.0 is.1)))) (both_true (is_name is.0) (is_id is.1) is.3 is.4))

-- an object that is stored stands at its place, where no client has the operator's name
object_place : (kind : Kind) (name : List ℕ) (doc : Doc) → IsStored kind name doc → (kind ≡ kinds.Client → bytes_eq name operator ≡ false) → IsPlace (object (key kind name))
object_place kinds.Org name doc is apart = absurd is
object_place kinds.Node name doc is apart = ap (λ b. where_ b (object (key kinds.Node name))) is.0
object_place kinds.Role name doc is apart = ap (λ b. where_ b (object (key kinds.Role name))) is.0
object_place kinds.Environment name doc is apart = ap (λ b. where_ b (object (key kinds.Environment name))) is.0
object_place kinds.Bag name doc is apart = ap (λ b. where_ b (object (key kinds.Bag name))) is.0
object_place kinds.Client name doc is apart = ap (λ b. where_ b (object (key kinds.Client name))) (both_true (is_name name) (not (bytes_eq name operator)) is.0 (ap not (apart refl)))
object_place kinds.User name doc is apart = absurd is
object_place kinds.Group name doc is apart = absurd is
object_place kinds.Container name doc is apart = absurd is
object_place kinds.Item name doc is apart = item_at name doc is
object_place kinds.Cookbook name doc is apart = absurd is
object_place kinds.Artifact name doc is apart = absurd is
object_place kinds.Policy name doc is apart = absurd is
object_place kinds.PolicyGroup name doc is apart = absurd is
object_place kinds.Acl name doc is apart = absurd is
object_place kinds.Sandbox name doc is apart = absurd is
object_place kinds.File name doc is apart = absurd is

abbrev is_item_kind : Kind → Bool
is_item_kind kinds.Item = true
is_item_kind _ = false

-- the name of an object with a list, of a kind whose objects are documents, is a Name
stored_name : (kind : Kind) (name : List ℕ) (doc : Doc) → IsStored kind name doc → is_item_kind kind ≡ false → is_name name ≡ true
stored_name kinds.Org name doc is no_item = absurd is
stored_name kinds.Node name doc is no_item = is.0
stored_name kinds.Role name doc is no_item = is.0
stored_name kinds.Environment name doc is no_item = is.0
stored_name kinds.Bag name doc is no_item = is.0
stored_name kinds.Client name doc is no_item = is.0
stored_name kinds.User name doc is no_item = absurd is
stored_name kinds.Group name doc is no_item = absurd is
stored_name kinds.Container name doc is no_item = absurd is
stored_name kinds.Item name doc is no_item = true_false no_item
stored_name kinds.Cookbook name doc is no_item = absurd is
stored_name kinds.Artifact name doc is no_item = absurd is
stored_name kinds.Policy name doc is no_item = absurd is
stored_name kinds.PolicyGroup name doc is no_item = absurd is
stored_name kinds.Acl name doc is no_item = absurd is
stored_name kinds.Sandbox name doc is no_item = absurd is
stored_name kinds.File name doc is no_item = absurd is

-- the place of a list is that of its object's kind and name
acl_at : (kind : Kind) (name : List ℕ) → place_in kinds.Acl (slashed (word_of kind) name) ≡ where_ (is_name name) (acl (key kind name))
acl_at kinds.Org name = refl
acl_at kinds.Node name = refl
acl_at kinds.Role name = refl
acl_at kinds.Environment name = refl
acl_at kinds.Bag name = refl
acl_at kinds.Client name = refl
acl_at kinds.User name = refl
acl_at kinds.Group name = refl
acl_at kinds.Container name = refl
acl_at kinds.Item name = refl
acl_at kinds.Cookbook name = refl
acl_at kinds.Artifact name = refl
acl_at kinds.Policy name = refl
acl_at kinds.PolicyGroup name = refl
acl_at kinds.Acl name = refl
acl_at kinds.Sandbox name = refl
acl_at kinds.File name = refl

pub acl_place_of : (k : Key) → is_name k.name ≡ true → IsPlace (acl k)
acl_place_of k is = acl_at k.kind k.name ∙ ap (λ b. where_ b (acl k)) is

-- the containers have Names
container_is : (each : Container) → is_name (name_of each) ≡ true
container_is each_container.Clients = refl
container_is each_container.Containers = refl
container_is each_container.CookbookArtifacts = refl
container_is each_container.Cookbooks = refl
container_is each_container.Data = refl
container_is each_container.Environments = refl
container_is each_container.Groups = refl
container_is each_container.Nodes = refl
container_is each_container.Policies = refl
container_is each_container.PolicyGroups = refl
container_is each_container.Roles = refl
container_is each_container.Sandboxes = refl

container_name : (name : List ℕ) → is_some (container_named name) ≡ true → is_name name ≡ true
container_name name is =
    let some = some_of (container_named name) is in
    subst (λ n. is_name n ≡ true) (sym ((bytes_decides name (name_of some.0)).0 (found (λ each. bytes_eq name (name_of each)) containers some.0 some.1))) (container_is some.0)

pub name_place : (name : List ℕ) → is_name name ≡ true → IsPlace (group name)
name_place name is = ap (λ b. where_ b (group name)) is

-- ---- the parts of a legal organisation

module _ (o : Organisation) (meets : MeetsConditions (Some o)) (typed : IsTyped o) where
  objects_meet : ObjectConditions o.objects
  objects_meet = meets.0

  access : AccessConditions o
  access = meets.1.0

  clients_meet : HasItsClients o
  clients_meet = meets.1.1.0

  shelves_meet : ShelfConditions o.shelved
  shelves_meet = meets.1.1.1

  -- neither a user nor a client has the operator's name
  or_false_left : (a b : Bool) → (a || b) ≡ false → a ≡ false
  or_false_left true b is = cc is
  or_false_left false b is = refl

  or_false_right : (a b : Bool) → (a || b) ≡ false → b ≡ false
  or_false_right true b is = cc is
  or_false_right false b is = is

  not_operator : (name : List ℕ) (has_it : List ℕ → Bool) → has_it operator ≡ false → has_it name ≡ true → bytes_eq name operator ≡ false
  not_operator name has_it none is =
      elim (bytes_eq name operator) as (λ b. bytes_eq name operator ≡ b → b ≡ false) [
        | true ↦ λ same. true_false (sym is ∙ ap has_it ((bytes_decides name operator).0 same) ∙ none)
        | false ↦ λ other. refl
      ] refl

  pub user_not_operator : (name : List ℕ) → membership.has o.membership member.User name ≡ true → bytes_eq name operator ≡ false
  user_not_operator name is = not_operator name (membership.has o.membership member.User) (or_false_left _ _ access.apart.operator_apart) is

  pub client_not_operator : (name : List ℕ) → membership.has o.membership member.Client name ≡ true → bytes_eq name operator ≡ false
  client_not_operator name is = not_operator name (membership.has o.membership member.Client) (or_false_right _ _ access.apart.operator_apart) is

  pub has_of : (k : Key) (doc : Doc) → finite.get o.objects k ≡ Some doc → has o.objects k.kind k.name ≡ true
  has_of k doc is = ap is_some is

  pub object_at : (k : Key) (doc : Doc) → finite.get o.objects k ≡ Some doc → IsPlace (object k)
  object_at k doc is =
      object_place k.kind k.name doc (objects_meet.stored k doc is)
      (λ client. client_not_operator k.name (clients_meet k.name ∙ ap (λ kind. has o.objects kind k.name) (sym client) ∙ has_of k doc is))

  pub user_at : (name : List ℕ) → set.contains o.membership.users name ≡ true → IsPlace (user name)
  user_at name is =
      ap (λ b. where_ b (user name)) (both_true (is_name name) (not (bytes_eq name operator)) (access.named member.User name is) (ap not (user_not_operator name is)))

  pub group_name : (name : List ℕ) (members : Members) → finite.get o.membership.groups name ≡ Some members → is_name name ≡ true
  group_name name members is = access.named member.Group name (ap is_some is)

  pub group_at : (name : List ℕ) (members : Members) → finite.get o.membership.groups name ≡ Some members → IsPlace (group name)
  group_at name members is = name_place name (group_name name members is)

  pub version_at : (name : List ℕ) (number : Version) (doc : Doc) → value_at o.shelved.cookbooks name number ≡ Some doc → IsPlace (version name number)
  version_at name number doc is =
      let of = shelves_meet.versions name number doc is in
      split_as-slashed (λ front back. version_place front back (reads_version back)) name (version_text number) of.0
      ∙ ap (version_place name (version_text number)) (versions_read_back number (typed.versions name number doc is).1)
      ∙ ap (λ b. where_ b (version name number)) (both_true (is_name name) (bytes_eq (version_text number) (version_text number)) of.0 ((bytes_decides (version_text number) (version_text number)).1 refl))

  pub artifact_at : (name id : List ℕ) (doc : Doc) → value_at o.shelved.artifacts name id ≡ Some doc → IsPlace (artifact name id)
  artifact_at name id doc is =
      let of = shelves_meet.artifacts name id doc is in
      split_as-slashed (λ front back. where_ (is_name front && is_identifier back) (artifact front back)) name id of.0
      ∙ ap (λ b. where_ b (artifact name id)) (both_true (is_name name) (is_identifier id) of.0 (artifact_id name id doc of.1.manifest of.1.read))

  pub revision_at : (policy id : List ℕ) (doc : Doc) → value_at o.shelved.policies policy id ≡ Some doc → IsPlace (revision policy id)
  revision_at policy id doc is =
      let of = shelves_meet.revisions policy id doc is in
      split_as-slashed (λ front back. where_ (is_name front && is_name back) (revision front back)) policy id of.0
      ∙ ap (λ b. where_ b (revision policy id)) (both_true (is_name policy) (is_name id) of.0 of.1.0)

  pub policy_group_at : (name : List ℕ) (assigned : Assigned) → finite.get o.shelved.groups name ≡ Some assigned → IsPlace (policy_group name)
  policy_group_at name assigned is = ap (λ b. where_ b (policy_group name)) (shelves_meet.groups name (ap is_some is))

  -- ---- lists

  of_object : (kind : Kind) (name : List ℕ) → is_item_kind kind ≡ false → has o.objects kind name ≡ true → is_name name ≡ true
  of_object kind name no_item is =
      let some = some_of (finite.get o.objects (key kind name)) is in
      stored_name kind name some.0 (objects_meet.stored (key kind name) some.0 some.1) no_item

  of_cookbook : (name : List ℕ) → has_shelf o.shelved.cookbooks name ≡ true → is_name name ≡ true
  of_cookbook name is =
      let some = has_shelf-value versions_total o.shelved.cookbooks name typed.cookbooks_filled is in
      (shelves_meet.versions name some.0 some.1 some.2).0

  of_artifact : (name : List ℕ) → has_shelf o.shelved.artifacts name ≡ true → is_name name ≡ true
  of_artifact name is =
      let some = has_shelf-value nat_list_cmp_total o.shelved.artifacts name typed.artifacts_filled is in
      (shelves_meet.artifacts name some.0 some.1 some.2).0

  of_policy : (name : List ℕ) → has_shelf o.shelved.policies name ≡ true → is_name name ≡ true
  of_policy name is =
      let some = has_shelf-value nat_list_cmp_total o.shelved.policies name typed.policies_filled is in
      (shelves_meet.revisions name some.0 some.1 some.2).0

  listed_name : (kind : Kind) (name : List ℕ) → has_listed o kind name ≡ true → is_name name ≡ true
  listed_name kinds.Org name is = true_false (sym is)
  listed_name kinds.Node name is = of_object kinds.Node name refl is
  listed_name kinds.Role name is = of_object kinds.Role name refl is
  listed_name kinds.Environment name is = of_object kinds.Environment name refl is
  listed_name kinds.Bag name is = of_object kinds.Bag name refl is
  listed_name kinds.Client name is = of_object kinds.Client name refl is
  listed_name kinds.User name is = true_false (sym is)
  listed_name kinds.Group name is = access.named member.Group name is
  listed_name kinds.Container name is = container_name name is
  listed_name kinds.Item name is = true_false (sym is)
  listed_name kinds.Cookbook name is = of_cookbook name is
  listed_name kinds.Artifact name is = of_artifact name is
  listed_name kinds.Policy name is = of_policy name is
  listed_name kinds.PolicyGroup name is = shelves_meet.groups name is
  listed_name kinds.Acl name is = true_false (sym is)
  listed_name kinds.Sandbox name is = true_false (sym is)
  listed_name kinds.File name is = true_false (sym is)

  pub list_at : (k : Key) (list : Acl) → finite.get o.lists k ≡ Some list → IsPlace (acl k)
  list_at k found_list is = acl_place_of k (listed_name k.kind k.name (sym (access.listed k) ∙ ap is_some is))
