-- Just what has an access list by the rows has one.
use Rattle.std.proofs.Common.{◌≡◌, ℕ, List, [], ◌∷◌, map, Bool, true, false, cond, ◌&&◌, ◌||◌, Option, Some, None, is_some, option_map, option_and_then, unwrap_or, bytes_eq, Ordering, refl, sym, ap, subst, ◌∙◌}
use mathlib.Core.Bool.{true≢false}
use Rattle.std.proofs.lemmas.Bool.{and_parts}
use Rattle.std.proofs.lemmas.Option.{same_Some, none-some}
use Rattle.std.specs.Cmp.{IsTotalOrder, tied_itself, Equal-is}
use Rattle.std.specs.Cmp.Lexicographic.{bytes_decides, nat_list_cmp_total}
use Rattle.std.specs.FinMap as finite
use Rattle.std.specs.List.{list_all, list_any}
use Rattle.std.specs.Ordering.{eq_by_cmp}
use Rattle.doc_tree.specs.Doc.{Doc}
use Rattle.doc_tree.specs.Kind.{word_of}
use Rattle.doc_tree.specs.Name.{is_name, is_name_byte}
use Rattle.doc_tree.specs.declared.kind.Kind.{Kind}
use Rattle.doc_tree.specs.declared.kind.Kind.TheVariants as kinds
use Rattle.dep_solver.proofs.VersionLemmas.{versions_total}
use Rattle.access_lists.specs.Starting.{container_named}
use Rattle.access_lists.specs.declared.acl.Acl.{Acl}
use Rattle.object_store.proofs.KeysLemmas.{same_key-is, same_key-self}
use Rattle.object_store.specs.Keys.{key, same_key}
use Rattle.object_store.specs.declared.key.Key.{Key}
use Rattle.outside_keeper.specs.Rows.{KeptRows, row_cmp, row_cmp_total}
use Rattle.outside_keeper.specs.declared.row_key.RowKey.{RowKey}
use Rattle.org_core.specs.AccessConditions.{has_listed}
use Rattle.org_core.specs.States.{Organisation, nothing}
use Rattle.sandboxes.specs.Sandboxes.{Holding}
use Rattle.shelves.proofs.ShelfLaws.{AreFilled-empty, AreFilled-put, has_shelf-value}
use Rattle.shelves.specs.Shelves.{AreFilled, Store, value_at}
use Rattle.org_rows.proofs.PlaceLemmas.{place_of-row_of}
use Rattle.org_rows.proofs.WordLemmas.{kind_named-word, split-slashed}
use Rattle.org_rows.specs.Places as place
use Rattle.org_rows.specs.Places.{Place, acl_place, kind_named, place_of, row_of, slashed, split_as, split_at_slash, where_}
use Rattle.org_rows.specs.References.{is_first, is_met, is_of_thing, is_row_of, list_need, own_needs, there, thing}
use Rattle.org_rows.specs.Things.{Content, document, name_alone, members, assigned, list, listed_object, thing_at}
use Rattle.row_laying.proofs.FirstLemmas.{first_row}
use Rattle.row_laying.proofs.KeptLemmas.{IsOwn, list_met, there_is, where_is}
use Rattle.row_laying.proofs.MemberLemmas.{laid, held, told_of, told_met, none_acl, none_group, none_object, mapped_there, there_mapped}
use Rattle.row_laying.proofs.RowsLemmas.{HasOwnRows, stands_there}
use Rattle.row_laying.proofs.ShelfLemmas.{none_artifact, none_policy_group, none_revision, none_version}
use Rattle.row_laying.proofs.SoundLemmas.{IsToldOf}
use Rattle.row_reading.specs.declared.said.Said.{Said}
use Rattle.row_reading.specs.declared.said.Said.TheVariants.{Count, Object, User, Group, Container, Version, Artifact, Revision, PolicyGroup, List as AList, Sandbox, File}
use Rattle.org_rows.specs.Contents.{content_in}
use Rattle.row_laying.specs.KeptRows.{AreKept}
use Rattle.row_laying.specs.Laying.{with_said, with_all}
use Rattle.row_laying.specs.SaidRows.{IsAmong}
use Rattle.row_reading.specs.Sayings.{place_said}

-- ---- a shelf that is there has something on it

module _ {K : Type 0} {cmp : K → K → Ordering} (total : IsTotalOrder cmp) where
  -- a value is on a shelf that is there
  shelf_there : (store : Store cmp Doc) (name : List ℕ) (k : K) (found : Option (finite.FinMap cmp Doc)) → finite.get store name ≡ found → is_some (finite.get (unwrap_or found finite.empty) k) ≡ true → is_some found ≡ true
  shelf_there store name k None at is = absurd (true≢false (sym is ∙ ap is_some (finite.get-empty cmp k)))
  shelf_there store name k (Some shelf) at is = refl

-- all shelves have
pub record AreAllFilled (org' : Organisation) : Type 0 where
  pub cookbooks : AreFilled org'.shelved.cookbooks
  pub artifacts : AreFilled org'.shelved.artifacts
  pub policies : AreFilled org'.shelved.policies

filled_step : (said : Said) (o : Organisation) → AreAllFilled o → AreAllFilled (with_said said o)
filled_step (Count n) o are = are
filled_step (Object k object) o are = record { cookbooks = are.cookbooks; artifacts = are.artifacts; policies = are.policies }
filled_step (User name) o are = record { cookbooks = are.cookbooks; artifacts = are.artifacts; policies = are.policies }
filled_step (Group name group) o are = record { cookbooks = are.cookbooks; artifacts = are.artifacts; policies = are.policies }
filled_step (Container name) o are = are
filled_step (Version name version manifest) o are = record { cookbooks = AreFilled-put versions_total o.shelved.cookbooks name version manifest are.cookbooks; artifacts = are.artifacts; policies = are.policies }
filled_step (Artifact name id manifest) o are = record { cookbooks = are.cookbooks; artifacts = AreFilled-put nat_list_cmp_total o.shelved.artifacts name id manifest are.artifacts; policies = are.policies }
filled_step (Revision policy id lock) o are = record { cookbooks = are.cookbooks; artifacts = are.artifacts; policies = AreFilled-put nat_list_cmp_total o.shelved.policies policy id lock are.policies }
filled_step (PolicyGroup name policies) o are = record { cookbooks = are.cookbooks; artifacts = are.artifacts; policies = are.policies }
filled_step (AList k acl) o are = record { cookbooks = are.cookbooks; artifacts = are.artifacts; policies = are.policies }
filled_step (Sandbox id checksums) o are = are
filled_step (File bytes committed) o are = are

filled_all : (all : List Said) (o : Organisation) → AreAllFilled o → AreAllFilled (with_all all o)
filled_all [] o are = are
filled_all (first ∷ rest) o are = filled_all rest (with_said first o) (filled_step first o are)

pub all_filled : (all : List Said) → AreAllFilled (with_all all nothing)
all_filled all = filled_all all nothing (record { cookbooks = AreFilled-empty; artifacts = AreFilled-empty; policies = AreFilled-empty })

-- ---- what stands at a place is a thing with a list

listed_as : (o : Organisation) (a k : Key) → Some a ≡ Some k → has_listed o a.kind a.name ≡ true → has_listed o k.kind k.name ≡ true
listed_as o a k is there' = subst (λ (q : Key). has_listed o q.kind q.name ≡ true) (same_Some a k is) there'

object_listed : (o : Organisation) (kind : Kind) (name : List ℕ) (k : Key) → is_some (finite.get o.objects (key kind name)) ≡ true → listed_object kind name ≡ Some k → has_listed o k.kind k.name ≡ true
object_listed o kinds.Org name k there' is = absurd (none-some k is)
object_listed o kinds.Node name k there' is = listed_as o (key kinds.Node name) k is there'
object_listed o kinds.Role name k there' is = listed_as o (key kinds.Role name) k is there'
object_listed o kinds.Environment name k there' is = listed_as o (key kinds.Environment name) k is there'
object_listed o kinds.Bag name k there' is = listed_as o (key kinds.Bag name) k is there'
object_listed o kinds.Client name k there' is = listed_as o (key kinds.Client name) k is there'
object_listed o kinds.User name k there' is = absurd (none-some k is)
object_listed o kinds.Group name k there' is = absurd (none-some k is)
object_listed o kinds.Container name k there' is = absurd (none-some k is)
object_listed o kinds.Item name k there' is = absurd (none-some k is)
object_listed o kinds.Cookbook name k there' is = absurd (none-some k is)
object_listed o kinds.Artifact name k there' is = absurd (none-some k is)
object_listed o kinds.Policy name k there' is = absurd (none-some k is)
object_listed o kinds.PolicyGroup name k there' is = absurd (none-some k is)
object_listed o kinds.Acl name k there' is = absurd (none-some k is)
object_listed o kinds.Sandbox name k there' is = absurd (none-some k is)
object_listed o kinds.File name k there' is = absurd (none-some k is)

-- whatever is there of it
thing_listed : (o : Organisation) (files : Holding) (q : Place) (k : Key) → is_some (content_in o files q) ≡ true → thing_at q ≡ Some k → has_listed o k.kind k.name ≡ true
thing_listed o files place.itself k there' is = absurd (none-some k is)
thing_listed o files (place.object q) k there' is = object_listed o q.kind q.name k (there_mapped document (finite.get o.objects q) there') is
thing_listed o files (place.user name) k there' is = absurd (none-some k is)
thing_listed o files (place.group name) k there' is = listed_as o (key kinds.Group name) k is (there_mapped members (finite.get o.membership.groups name) there')
thing_listed o files (place.container name) k there' is = listed_as o (key kinds.Container name) k is (there_mapped (λ _. name_alone) (container_named name) there')
thing_listed o files (place.version name number) k there' is =
    listed_as o (key kinds.Cookbook name) k is (shelf_there versions_total o.shelved.cookbooks name number (finite.get o.shelved.cookbooks name) refl (there_mapped document (value_at o.shelved.cookbooks name number) there'))
thing_listed o files (place.artifact name id) k there' is =
    listed_as o (key kinds.Artifact name) k is (shelf_there nat_list_cmp_total o.shelved.artifacts name id (finite.get o.shelved.artifacts name) refl (there_mapped document (value_at o.shelved.artifacts name id) there'))
thing_listed o files (place.revision policy id) k there' is =
    listed_as o (key kinds.Policy policy) k is (shelf_there nat_list_cmp_total o.shelved.policies policy id (finite.get o.shelved.policies policy) refl (there_mapped document (value_at o.shelved.policies policy id) there'))
thing_listed o files (place.policy_group name) k there' is = listed_as o (key kinds.PolicyGroup name) k is (there_mapped assigned (finite.get o.shelved.groups name) there')
thing_listed o files (place.acl q) k there' is = absurd (none-some k is)
thing_listed o files (place.sandbox id) k there' is = absurd (none-some k is)
thing_listed o files (place.file sum) k there' is = absurd (none-some k is)

-- ---- rows of a thing

of_thing : (k : Key) (found : Option Key) → unwrap_or (option_map (same_key k) found) false ≡ true → found ≡ Some k
of_thing k None is = absurd (true≢false (sym is))
of_thing k (Some q) is = ap Some (sym (same_key-is k q is))

-- a key that passes a test
passing : (p : RowKey → Bool) (es : List (RowKey × List ℕ)) → list_any p (map (λ e. e.0) es) ≡ true → (row : RowKey) × (p row ≡ true) × (list_any (eq_by_cmp row_cmp row) (map (λ e. e.0) es) ≡ true)
passing p [] is = absurd (true≢false (sym is))
passing p (e ∷ es) is =
    elim (p e.0) as (λ b. p e.0 ≡ b → (b || list_any p (map (λ e. e.0) es)) ≡ true → (row : RowKey) × (p row ≡ true) × ((eq_by_cmp row_cmp row e.0 || list_any (eq_by_cmp row_cmp row) (map (λ e. e.0) es)) ≡ true)) [
      | true ↦ λ here _. (e.0, here, ap (λ b. b || list_any (eq_by_cmp row_cmp e.0) (map (λ e. e.0) es)) (ties_itself e.0))
      | false ↦ λ _ later.
          let rest = passing p es later in
          (rest.0, rest.1, or_behind (eq_by_cmp row_cmp rest.0 e.0) (list_any (eq_by_cmp row_cmp rest.0) (map (λ e. e.0) es)) rest.2)
    ] refl is
  where
    ties_itself : (row : RowKey) → eq_by_cmp row_cmp row row ≡ true
    ties_itself row = (Equal-is _).1 (tied_itself row_cmp_total row)

    or_behind : (a b : Bool) → b ≡ true → (a || b) ≡ true
    or_behind true b is = refl
    or_behind false b is = is

word_bytes : (kind : Kind) → list_all is_name_byte (word_of kind) ≡ true
word_bytes kinds.Org = refl
word_bytes kinds.Node = refl
word_bytes kinds.Role = refl
word_bytes kinds.Environment = refl
word_bytes kinds.Bag = refl
word_bytes kinds.Client = refl
word_bytes kinds.User = refl
word_bytes kinds.Group = refl
word_bytes kinds.Container = refl
word_bytes kinds.Item = refl
word_bytes kinds.Cookbook = refl
word_bytes kinds.Artifact = refl
word_bytes kinds.Policy = refl
word_bytes kinds.PolicyGroup = refl
word_bytes kinds.Acl = refl
word_bytes kinds.Sandbox = refl
word_bytes kinds.File = refl

own_acl : (org : List ℕ) (k : Key) → IsOwn org (place.acl k) (is_name k.name)
own_acl org k p is =
    where_is (is_name k.name) (place.acl k) p
    (ap (acl_place k.name) (sym (kind_named-word k.kind))
    ∙ ap (λ parts. option_and_then (λ parts. acl_place parts.1 (kind_named parts.0)) parts) (sym (split-slashed (word_of k.kind) k.name (word_bytes k.kind)))
    ∙ is)

bools_same : (a b : Bool) → (a ≡ true → b ≡ true) → (b ≡ true → a ≡ true) → a ≡ b
bools_same true b by back = sym (by refl)
bools_same false true by back = back refl
bools_same false false by back = refl

option_there : {X : Type 0} (found : Option X) → is_some found ≡ true → (x : X) × (found ≡ Some x)
option_there None is = absurd (true≢false (sym is))
option_there (Some x) is = (x, refl)

module _ (org : List ℕ) (rows : KeptRows) (all : List Said) (are : AreKept org rows all) (own : HasOwnRows org rows) where
  -- one whose row is a row of a thing is of the thing
  thing_of : (k : Key) (one : Said) (row : RowKey) → IsAmong one all → row_of org (place_said one) ≡ row → is_of_thing k (place_of row) ≡ true → thing_at (place_said one) ≡ Some k
  thing_of k one row among at is =
      let of : place_of row ≡ Some (place_said one) = ap place_of (sym at) ∙ place_of-row_of org (place_said one) (are.are_said.each one among).named in
      of_thing k (thing_at (place_said one)) (ap (is_of_thing k) (sym of) ∙ is)

  -- a list's object is there
  has_object : (k : Key) (acl : Acl) → finite.get (laid org rows all are).lists k ≡ Some acl → has_listed (laid org rows all are) k.kind k.name ≡ true
  has_object k acl is =
      let met : list_all (is_met rows org) (own_needs (place.acl k) (list acl)) ≡ true =
      told_met org rows all are (place.acl k) (list acl) (told_of org rows all are (place.acl k) (list acl) (none_acl k) (ap (option_map list) is)) in
      let found = passing (is_row_of org k) (finite.entries rows) (and_parts (is_met rows org (thing k)) _ met).0 in
      let parts = and_parts (bytes_eq found.0.org org) (is_of_thing k (place_of found.0)) found.1 in
      let body = option_there (finite.get rows found.0) (finite.contains_key-keys rows found.0 ∙ found.2) in
      let (one, among, at) = are.are_said.whole found.0 body.0 ((bytes_decides found.0.org org).0 parts.0) body.1 in
      thing_listed (laid org rows all are) (held org rows all are) (place_said one) k (stands_there org rows all are.are_said one among) (thing_of k one found.0 among at parts.1)

  -- the first row of a thing has the row of its list
  list_row : (row first : RowKey) (k : Key) (found : Option Key) → row ≡ first → found ≡ Some k → is_first (is_row_of row.org k) rows first ≡ true → list_all (is_met rows org) (list_need rows row found) ≡ true
      → is_met rows org (there (place.acl k)) ≡ true
  list_row row first k found at is lowest met =
      (and_parts (is_met rows org (there (place.acl k))) true
      (ap (λ b. list_all (is_met rows org) (cond b (there (place.acl k) ∷ []) [])) (sym (ap (is_first (is_row_of row.org k) rows) at ∙ lowest))
      ∙ ap (λ (q : Option Key). list_all (is_met rows org) (list_need rows row q)) (sym is)
      ∙ met)).0

  -- the list of a thing of which a row is there
  list_of_thing : (k : Key) (q : Place) → is_some (finite.get rows (row_of org q)) ≡ true → place_of (row_of org q) ≡ Some q → thing_at q ≡ Some k → is_some (finite.get (laid org rows all are).lists k) ≡ true
  list_of_thing k q there' of is =
      let holds : is_row_of org k (row_of org q) ≡ true =
      (λ i. (bytes_decides org org).1 refl i && is_of_thing k (of i)) ∙ ap (λ found. unwrap_or (option_map (same_key k) found) false) is ∙ same_key-self k in
      let first = first_row (is_row_of org k) rows (row_of org q) holds there' in
      let parts = and_parts (bytes_eq first.0.org org) (is_of_thing k (place_of first.0)) first.1 in
      let org_is = (bytes_decides first.0.org org).0 parts.0 in
      let body = option_there (finite.get rows first.0) first.2 in
      let (one, among, at) = are.are_said.whole first.0 body.0 org_is body.1 in
      let of_k = thing_of k one first.0 among at parts.1 in
      there_mapped list (finite.get (laid org rows all are).lists k)
      (there_is org rows all are (place.acl k) (is_name k.name) (own_acl org k)
      (list_row (row_of org (place_said one)) first.0 k (thing_at (place_said one)) at of_k first.3 (list_met org rows all are one among)))

  -- by one that is told of it
  list_told : (k : Key) (q : Place) (content : Content) → IsToldOf all q content → thing_at q ≡ Some k → is_some (finite.get (laid org rows all are).lists k) ≡ true
  list_told k q content told is =
      let by = are.are_said.each told.0 told.1 in
      list_of_thing k q (ap (λ p. is_some (finite.get rows (row_of org p))) told.2 ∙ ap is_some by.there)
      (ap (λ p. place_of (row_of org p)) told.2 ∙ place_of-row_of org (place_said told.0) by.named ∙ ap Some (sym told.2)) is

  object_list : (kind : Kind) (name : List ℕ) (k : Key) → is_some (finite.get (laid org rows all are).objects (key kind name)) ≡ true → listed_object kind name ≡ Some k → is_some (finite.get (laid org rows all are).lists k) ≡ true
  object_list kind name k there' is =
      let found = mapped_there document (finite.get (laid org rows all are).objects (key kind name)) there' in
      list_told k (place.object (key kind name)) found.0 (told_of org rows all are (place.object (key kind name)) found.0 (none_object (key kind name)) found.1) is

  container_list : (name : List ℕ) → is_some (container_named name) ≡ true → is_some (finite.get (laid org rows all are).lists (key kinds.Container name)) ≡ true
  container_list name there' =
      list_of_thing (key kinds.Container name) (place.container name) (own.containers name there')
      (place_of-row_of org (place.container name) (ap (λ b. where_ b (place.container name)) there')) refl

  has_list : (kind : Kind) (name : List ℕ) → has_listed (laid org rows all are) kind name ≡ true → is_some (finite.get (laid org rows all are).lists (key kind name)) ≡ true
  has_list kinds.Org name is = absurd (true≢false (sym is))
  has_list kinds.Node name is = object_list kinds.Node name (key kinds.Node name) is refl
  has_list kinds.Role name is = object_list kinds.Role name (key kinds.Role name) is refl
  has_list kinds.Environment name is = object_list kinds.Environment name (key kinds.Environment name) is refl
  has_list kinds.Bag name is = object_list kinds.Bag name (key kinds.Bag name) is refl
  has_list kinds.Client name is = object_list kinds.Client name (key kinds.Client name) is refl
  has_list kinds.User name is = absurd (true≢false (sym is))
  has_list kinds.Group name is =
      let found = mapped_there members (finite.get (laid org rows all are).membership.groups name) is in
      list_told (key kinds.Group name) (place.group name) found.0 (told_of org rows all are (place.group name) found.0 (none_group name) found.1) refl
  has_list kinds.Container name is = container_list name is
  has_list kinds.Item name is = absurd (true≢false (sym is))
  has_list kinds.Cookbook name is =
      let one = has_shelf-value versions_total (laid org rows all are).shelved.cookbooks name (all_filled all).cookbooks is in
      list_told (key kinds.Cookbook name) (place.version name one.0) (document one.1) (told_of org rows all are (place.version name one.0) (document one.1) (none_version name one.0) (ap (option_map document) one.2)) refl
  has_list kinds.Artifact name is =
      let one = has_shelf-value nat_list_cmp_total (laid org rows all are).shelved.artifacts name (all_filled all).artifacts is in
      list_told (key kinds.Artifact name) (place.artifact name one.0) (document one.1) (told_of org rows all are (place.artifact name one.0) (document one.1) (none_artifact name one.0) (ap (option_map document) one.2)) refl
  has_list kinds.Policy name is =
      let one = has_shelf-value nat_list_cmp_total (laid org rows all are).shelved.policies name (all_filled all).policies is in
      list_told (key kinds.Policy name) (place.revision name one.0) (document one.1) (told_of org rows all are (place.revision name one.0) (document one.1) (none_revision name one.0) (ap (option_map document) one.2)) refl
  has_list kinds.PolicyGroup name is =
      let found = mapped_there assigned (finite.get (laid org rows all are).shelved.groups name) is in
      list_told (key kinds.PolicyGroup name) (place.policy_group name) found.0 (told_of org rows all are (place.policy_group name) found.0 (none_policy_group name) found.1) refl
  has_list kinds.Acl name is = absurd (true≢false (sym is))
  has_list kinds.Sandbox name is = absurd (true≢false (sym is))
  has_list kinds.File name is = absurd (true≢false (sym is))

  -- those have a list, and nothing else has
  pub listed_there : (k : Key) → is_some (finite.get (laid org rows all are).lists k) ≡ has_listed (laid org rows all are) k.kind k.name
  listed_there k =
      bools_same _ _ (λ is. let acl = option_there (finite.get (laid org rows all are).lists k) is in has_object k acl.0 acl.1) (has_list k.kind k.name)
