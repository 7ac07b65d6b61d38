-- The rows of legal states are good.
use Rattle.std.proofs.Common.{◌≡◌, ℕ, Bool, true, false, not, cond, ◌&&◌, ◌||◌, List, [], ◌∷◌, ◌++◌, map, flat_map, codes, bytes_eq, is_some, unwrap_or, Option, Some, None, option_map, option_and_then, refl, sym, ap, subst, ◌∙◌}
use Rattle.std.proofs.lemmas.Bool.{and_parts}
use Rattle.std.specs.Cmp.{eq_by_cmp_equiv, Equal-is}
use Rattle.std.specs.Cmp.Lexicographic.{bytes_decides, nat_list_cmp_total}
use Rattle.std.specs.FinMap as finite
use Rattle.std.specs.FinSet as set
use Rattle.std.specs.List.{list_all, list_any}
use Rattle.std.specs.Ordering.{eq_by_cmp}
use Rattle.dep_solver.proofs.VersionLemmas.{versions_total}
use Rattle.doc_tree.specs.Doc.{Doc}
use Rattle.doc_tree.specs.Name.{is_name, is_organisation_name}
use Rattle.doc_tree.specs.Text.{text_cmp}
use Rattle.doc_tree.specs.Written.{text}
use Rattle.doc_tree.specs.declared.kind.Kind.{Kind}
use Rattle.doc_tree.specs.declared.kind.Kind.TheVariants as kinds
use Rattle.membership.proofs.TextSetLemmas.{any-tied}
use Rattle.membership.specs.Actors.{operator}
use Rattle.membership.specs.Actors as membership
use Rattle.membership.specs.Members.{Members}
use Rattle.membership.specs.StartingGroups.{starting_groups}
use Rattle.membership.specs.TextSets.{Names, lists}
use Rattle.membership.specs.declared.member_kind.MemberKind.TheVariants as member
use Rattle.access_lists.specs.Acls.{entry_of}
use Rattle.access_lists.specs.Starting.{container_named, containers, name_of}
use Rattle.access_lists.specs.declared.acl.Acl.{Acl}
use Rattle.access_lists.specs.declared.perm.Perm.{Perm}
use Rattle.access_lists.specs.declared.perm.Perm.TheVariants.{Create, Read, Update, Delete, Grant}
use Rattle.access_lists.specs.declared.starting.Container.{Container}
use Rattle.access_lists.specs.declared.starting.Container.TheVariants as each_container
use Rattle.object_store.specs.Keys.{key, key_cmp_total, same_key}
use Rattle.object_store.specs.declared.key.Key.{Key}
use Rattle.org_core.specs.AccessConditions.{AccessConditions, HasItsClients, has_listed}
use Rattle.org_core.specs.Conditions.{MeetsConditions}
use Rattle.org_core.specs.FullStates.{FullState}
use Rattle.org_core.specs.ObjectConditions.{ObjectConditions, has, IsItem}
use Rattle.org_core.specs.States.{Organisation, State, shelved_of}
use Rattle.org_shelves.proofs.NamedLemmas.{named_by}
use Rattle.org_shelves.specs.Conditions.{ShelfConditions}
use Rattle.org_shelves.specs.Editions.{sums_in, names_sum}
use Rattle.org_shelves.specs.Files.{AreThere, is_committed_file}
use Rattle.org_shelves.specs.ShelfMoves.{is_named, store_names}
use Rattle.org_shelves.specs.Shelved.{Assigned}
use Rattle.outside_keeper.proofs.RowLemmas.{row_cmp_ties}
use Rattle.outside_keeper.specs.Rows.{KeptRows, row_cmp}
use Rattle.outside_keeper.specs.declared.row_key.RowKey.{RowKey}
use Rattle.sandboxes.specs.Checksums.{checksum_of}
use Rattle.sandboxes.specs.Sandboxes.{Holding}
use Rattle.sandboxes.specs.declared.stored.Stored.{Stored}
use Rattle.shelves.proofs.ShelfLaws.{has_shelf-value, value-has_shelf}
use Rattle.shelves.specs.Shelves.{value_at}
use Rattle.org_rows.specs.Bodies.{acl_body, assigned_body, body_in, body_of, file_body, group_body, name_body, sandbox_body}
use Rattle.org_rows.specs.Contents.{content_in}
use Rattle.org_rows.specs.Laws.{RowsAreGood}
use Rattle.org_rows.specs.Legal.{AreTypedFiles, IsLegal, IsTyped, IsTypedState, LocksReadBack}
use Rattle.org_rows.specs.Places.{Place, kind_named, itself, object, user, group, container, version, artifact, revision, policy_group, acl, sandbox, file, IsPlace, place_in, place_of, row_of, split_at_slash, where_}
use Rattle.org_rows.specs.References.{there, not_there, actor, thing, committed, is_met, has_row, has_thing, is_row_of, is_of_thing, starting_needs, needs_of, org_needs, list_need, own_needs, bag_needs, bag_need, member_needs, assigned_needs, entry_needs, manifest_needs, said_needs, has_references, is_first, is_of_org}
use Rattle.org_rows.specs.Reading.{content_at, file_in}
use Rattle.org_rows.specs.Reasons.{has_digest, reason_of, reason_of_content, reason_of_kind, reason_of_named, reason_of_said}
use Rattle.org_rows.specs.declared.reason.Reason.TheVariants as reason
use Rattle.org_rows.specs.Rows.{AreRowsOf, row_in}
use Rattle.org_rows.specs.Things.{Content, count, document, name_alone, members, assigned, list, sums, stored, listed_object, thing_at}
use Rattle.org_rows.proofs.ContentLemmas.{file_back, said_at}
use Rattle.org_rows.proofs.EntryLemmas.{AllEntries, all_entries}
use Rattle.org_rows.proofs.LegalLemmas as legal
use Rattle.org_rows.proofs.PlaceLemmas.{place_of-row_of}
use Rattle.org_rows.proofs.SameLemmas.{file_at}
use Rattle.org_rows.proofs.TextLemmas.{name_bytes}
use Rattle.org_rows.proofs.WordLemmas.{some_same, split-slashed, true_false}

both_true : (a b : Bool) → a ≡ true → b ≡ true → (a && b) ≡ true
both_true a b first second = ap (λ x. x && b) first ∙ second

either_true : (a b : Bool) → a ≡ true → (a || b) ≡ true
either_true true b is = refl
either_true false b is = cc is

or_true : (a b : Bool) → b ≡ true → (a || b) ≡ true
or_true true b is = refl
or_true false b is = is

some_of : {X : Type 0} (o : Option X) → is_some o ≡ true → (x : X) × (o ≡ Some x)
some_of None is = true_false (sym is)
some_of (Some x) is = (x, refl)

mapped_some : {X Y : Type 0} (f : X → Y) (o : Option X) → is_some o ≡ true → is_some (option_map f o) ≡ true
mapped_some f None is = is
mapped_some f (Some x) is = refl

-- ---- all of some needs

module _ {X : Type 0} (p : X → Bool) where
  all_both : (xs ys : List X) → list_all p xs ≡ true → list_all p ys ≡ true → list_all p (xs ++ ys) ≡ true
  all_both [] ys left right = right
  all_both (x ∷ xs) ys left right =
      let parts = and_parts (p x) (list_all p xs) left in
      both_true (p x) (list_all p (xs ++ ys)) parts.0 (all_both xs ys parts.1 right)

  all_mapped : {Y : Type 0} (f : Y → X) (ys : List Y) → ((y : Y) → p (f y) ≡ true) → list_all p (map f ys) ≡ true
  all_mapped f [] each = refl
  all_mapped f (y ∷ ys) each = both_true (p (f y)) (list_all p (map f ys)) (each y) (all_mapped f ys each)

  all_listed : (f : List ℕ → X) (names : List (List ℕ)) → ((name : List ℕ) → lists names name ≡ true → p (f name) ≡ true) → list_all p (map f names) ≡ true
  all_listed f [] each = refl
  all_listed f (name ∷ names) each =
      both_true (p (f name)) (list_all p (map f names)) (each name (either_true (bytes_eq name name) (lists names name) ((bytes_decides name name).1 refl)))
      (all_listed f names (λ other is. each other (or_true (bytes_eq other name) (lists names other) is)))

  all_items : (f : List ℕ → X) (names : Names) → ((name : List ℕ) → set.contains names name ≡ true → p (f name) ≡ true) → list_all p (map f (set.items names)) ≡ true
  all_items f names each = all_listed f (set.items names) (λ name is. each name (set.contains-items names name ∙ any-tied name (set.items names) ∙ is))

-- ---- the rows of one organisation that is there

module _ (rows : KeptRows) (org : List ℕ) (o : Organisation) (files : Holding) (meets : MeetsConditions (Some o)) (typed : IsTyped o) (typed_files : AreTypedFiles files) (named_files : AreThere o.shelved files)
    (are : (row : RowKey) → row.org ≡ org → finite.get rows row ≡ option_and_then (body_in o files) (place_of row)) where
  objects_meet : ObjectConditions o.objects
  objects_meet = meets.0

  access : AccessConditions o
  access = meets.1.0

  clients_meet : HasItsClients o
  clients_meet = meets.1.1.0

  shelves_meet : ShelfConditions o.shelved
  shelves_meet = meets.1.1.1

  -- the body of a place's row is what stands there
  at_place : (place : Place) → IsPlace place → finite.get rows (row_of org place) ≡ body_in o files place
  at_place place is = are (row_of org place) refl ∙ ap (option_and_then (body_in o files)) (place_of-row_of org place is)

  row_there : (place : Place) → IsPlace place → is_some (body_in o files place) ≡ true → has_row rows org place ≡ true
  row_there place is some = ap is_some (at_place place is) ∙ some

  group_there : (name : List ℕ) → membership.has o.membership member.Group name ≡ true → has_row rows org (group name) ≡ true
  group_there name is = row_there (group name) (legal.name_place name (access.named member.Group name is)) (mapped_some (group_body name) (finite.get o.membership.groups name) is)

  object_there : (kind : Kind) (name : List ℕ) → has o.objects kind name ≡ true → has_row rows org (object (key kind name)) ≡ true
  object_there kind name is =
      let some = some_of (finite.get o.objects (key kind name)) is in
      row_there (object (key kind name)) (legal.object_at o meets typed (key kind name) some.0 some.1) (mapped_some text (finite.get o.objects (key kind name)) is)

  client_there : (name : List ℕ) → membership.has o.membership member.Client name ≡ true → has_row rows org (object (key kinds.Client name)) ≡ true
  client_there name is = object_there kinds.Client name (sym (clients_meet name) ∙ is)

  user_there : (name : List ℕ) → membership.has o.membership member.User name ≡ true → has_row rows org (user name) ≡ true
  user_there name is = row_there (user name) (legal.user_at o meets typed name is) (ap (λ b. is_some (cond b (Some (name_body name)) None)) is)

  acl_there : (k : Key) → has_listed o k.kind k.name ≡ true → has_row rows org (acl k) ≡ true
  acl_there k is =
      let some = some_of (finite.get o.lists k) (access.listed k ∙ is) in
      row_there (acl k) (legal.list_at o meets typed k some.0 some.1) (mapped_some acl_body (finite.get o.lists k) (access.listed k ∙ is))

  -- ---- what every organisation has

  container_met : (each : Container) → is_met rows org (there (container (name_of each))) ≡ true
  container_met each_container.Clients = row_there (container (codes "clients")) refl refl
  container_met each_container.Containers = row_there (container (codes "containers")) refl refl
  container_met each_container.CookbookArtifacts = row_there (container (codes "cookbook_artifacts")) refl refl
  container_met each_container.Cookbooks = row_there (container (codes "cookbooks")) refl refl
  container_met each_container.Data = row_there (container (codes "data")) refl refl
  container_met each_container.Environments = row_there (container (codes "environments")) refl refl
  container_met each_container.Groups = row_there (container (codes "groups")) refl refl
  container_met each_container.Nodes = row_there (container (codes "nodes")) refl refl
  container_met each_container.Policies = row_there (container (codes "policies")) refl refl
  container_met each_container.PolicyGroups = row_there (container (codes "policy_groups")) refl refl
  container_met each_container.Roles = row_there (container (codes "roles")) refl refl
  container_met each_container.Sandboxes = row_there (container (codes "sandboxes")) refl refl

  starting_met : list_all (is_met rows org) starting_needs ≡ true
  starting_met =
      both_true (is_met rows org (there itself)) _ (row_there itself refl refl)
      (both_true (is_met rows org (there (object (key kinds.Environment (codes "_default"))))) _ (object_there kinds.Environment (codes "_default") objects_meet.default_environment)
      (all_both (is_met rows org) (map (λ name. there (group name)) starting_groups) (map (λ each. there (container (name_of each))) containers)
      (all_listed (is_met rows org) (λ name. there (group name)) starting_groups (λ name is. group_there name (access.starting name is)))
      (all_mapped (is_met rows org) (λ each. there (container (name_of each))) containers container_met)))

  org_met : (row : RowKey) → list_all (is_met rows org) (org_needs rows row) ≡ true
  org_met row =
      elim (is_first (is_of_org row.org) rows row) as (λ b. list_all (is_met rows org) (cond b starting_needs []) ≡ true) [
        | true ↦ starting_met
        | false ↦ refl
      ]

  -- ---- lists

  object_listed : (kind : Kind) (name : List ℕ) (k : Key) → listed_object kind name ≡ Some k → has o.objects kind name ≡ true → has_listed o k.kind k.name ≡ true
  object_listed kinds.Node name k is there_is = subst (λ (k : Key). has_listed o k.kind k.name ≡ true) (some_same (key kinds.Node name) k is) there_is
  object_listed kinds.Role name k is there_is = subst (λ (k : Key). has_listed o k.kind k.name ≡ true) (some_same (key kinds.Role name) k is) there_is
  object_listed kinds.Environment name k is there_is = subst (λ (k : Key). has_listed o k.kind k.name ≡ true) (some_same (key kinds.Environment name) k is) there_is
  object_listed kinds.Bag name k is there_is = subst (λ (k : Key). has_listed o k.kind k.name ≡ true) (some_same (key kinds.Bag name) k is) there_is
  object_listed kinds.Client name k is there_is = subst (λ (k : Key). has_listed o k.kind k.name ≡ true) (some_same (key kinds.Client name) k is) there_is
  object_listed kinds.Org name k is there_is = cc is
  object_listed kinds.User name k is there_is = cc is
  object_listed kinds.Group name k is there_is = cc is
  object_listed kinds.Container name k is there_is = cc is
  object_listed kinds.Item name k is there_is = cc is
  object_listed kinds.Cookbook name k is there_is = cc is
  object_listed kinds.Artifact name k is there_is = cc is
  object_listed kinds.Policy name k is there_is = cc is
  object_listed kinds.PolicyGroup name k is there_is = cc is
  object_listed kinds.Acl name k is there_is = cc is
  object_listed kinds.Sandbox name k is there_is = cc is
  object_listed kinds.File name k is there_is = cc is

  -- an object that a row is of has a list
  of_value : {X : Type 0} (make : X → Content) (found : Option X) (content : Content) → option_map make found ≡ Some content → (x : X) × (found ≡ Some x) × (make x ≡ content)
  of_value make None content is = cc is
  of_value make (Some x) content is = (x, refl, some_same (make x) content is)

  listed_as : (k own : Key) → Some own ≡ Some k → has_listed o own.kind own.name ≡ true → has_listed o k.kind k.name ≡ true
  listed_as k own is has_it = subst (λ (k : Key). has_listed o k.kind k.name ≡ true) (some_same own k is) has_it

  thing_listed : (place : Place) (content : Content) (k : Key) → content_in o files place ≡ Some content → thing_at place ≡ Some k → has_listed o k.kind k.name ≡ true
  thing_listed itself content k at is = cc is
  thing_listed (object own) content k at is = let found = of_value document (finite.get o.objects own) content at in object_listed own.kind own.name k is (ap is_some found.1)
  thing_listed (user name) content k at is = cc is
  thing_listed (group name) content k at is = let found = of_value members (finite.get o.membership.groups name) content at in listed_as k (key kinds.Group name) is (ap is_some found.1)
  thing_listed (container name) content k at is = let found = of_value (λ _. name_alone) (container_named name) content at in listed_as k (key kinds.Container name) is (ap is_some found.1)
  thing_listed (version name number) content k at is =
      let found = of_value document (value_at o.shelved.cookbooks name number) content at in
      listed_as k (key kinds.Cookbook name) is (value-has_shelf versions_total o.shelved.cookbooks name number found.0 found.1)
  thing_listed (artifact name id) content k at is =
      let found = of_value document (value_at o.shelved.artifacts name id) content at in
      listed_as k (key kinds.Artifact name) is (value-has_shelf nat_list_cmp_total o.shelved.artifacts name id found.0 found.1)
  thing_listed (revision policy id) content k at is =
      let found = of_value document (value_at o.shelved.policies policy id) content at in
      listed_as k (key kinds.Policy policy) is (value-has_shelf nat_list_cmp_total o.shelved.policies policy id found.0 found.1)
  thing_listed (policy_group name) content k at is = let found = of_value assigned (finite.get o.shelved.groups name) content at in listed_as k (key kinds.PolicyGroup name) is (ap is_some found.1)
  thing_listed (acl own) content k at is = cc is
  thing_listed (sandbox id) content k at is = cc is
  thing_listed (file sum) content k at is = cc is

  list_met : (row : RowKey) (k : Option Key) → ((own : Key) → k ≡ Some own → has_listed o own.kind own.name ≡ true) → list_all (is_met rows org) (list_need rows row k) ≡ true
  list_met row None each = refl
  list_met row (Some k) each =
      elim (is_first (is_row_of row.org k) rows row) as (λ b. list_all (is_met rows org) (cond b (there (acl k) ∷ []) []) ≡ true) [
        | true ↦ both_true (is_met rows org (there (acl k))) true (acl_there k (each k refl)) refl
        | false ↦ refl
      ]

  -- ---- an access list's object is there, by one of its rows

  same_row : (x y : RowKey) → eq_by_cmp row_cmp x y ≡ true → x ≡ y
  same_row x y same = row_cmp_ties x y ((Equal-is _).0 same)

  any_row : (passes : RowKey → Bool) (q : RowKey) (keys : List RowKey) → passes q ≡ true → list_any (eq_by_cmp row_cmp q) keys ≡ true → list_any passes keys ≡ true
  any_row passes q [] pass is = is
  any_row passes q (x ∷ xs) pass is =
      elim (eq_by_cmp row_cmp q x) as (λ b. eq_by_cmp row_cmp q x ≡ b → (b || list_any (eq_by_cmp row_cmp q) xs) ≡ true → (passes x || list_any passes xs) ≡ true) [
        | true ↦ λ same _. either_true (passes x) (list_any passes xs) (ap passes (sym (same_row q x same)) ∙ pass)
        | false ↦ λ other rest. or_true (passes x) (list_any passes xs) (any_row passes q xs pass rest)
      ] refl is

  thing_by : (k : Key) (place : Place) → IsPlace place → is_some (body_in o files place) ≡ true → thing_at place ≡ Some k → has_thing rows org k ≡ true
  thing_by k place is some own =
      let passes : is_row_of org k (row_of org place) ≡ true =
      both_true (bytes_eq org org) (is_of_thing k (place_of (row_of org place))) ((bytes_decides org org).1 refl)
      (ap (is_of_thing k) (place_of-row_of org place is) ∙ ap (λ o. unwrap_or (option_map (same_key k) o) false) own ∙ (eq_by_cmp_equiv key_cmp_total).refl k) in
      any_row (is_row_of org k) (row_of org place) (finite.keys rows) passes (sym (finite.contains_key-keys rows (row_of org place)) ∙ row_there place is some)

  object_thing : (kind : Kind) (name : List ℕ) → listed_object kind name ≡ Some (key kind name) → has o.objects kind name ≡ true → has_thing rows org (key kind name) ≡ true
  object_thing kind name own is =
      let some = some_of (finite.get o.objects (key kind name)) is in
      thing_by (key kind name) (object (key kind name)) (legal.object_at o meets typed (key kind name) some.0 some.1) (mapped_some text (finite.get o.objects (key kind name)) is) own

  thing_there : (kind : Kind) (name : List ℕ) → has_listed o kind name ≡ true → has_thing rows org (key kind name) ≡ true
  thing_there kinds.Org name is = true_false (sym is)
  thing_there kinds.Node name is = object_thing kinds.Node name refl is
  thing_there kinds.Role name is = object_thing kinds.Role name refl is
  thing_there kinds.Environment name is = object_thing kinds.Environment name refl is
  thing_there kinds.Bag name is = object_thing kinds.Bag name refl is
  thing_there kinds.Client name is = object_thing kinds.Client name refl is
  thing_there kinds.User name is = true_false (sym is)
  thing_there kinds.Group name is =
      thing_by (key kinds.Group name) (group name) (legal.name_place name (access.named member.Group name is)) (mapped_some (group_body name) (finite.get o.membership.groups name) is) refl
  thing_there kinds.Container name is =
      thing_by (key kinds.Container name) (container name) (ap (λ b. where_ b (container name)) is) (mapped_some (λ _. name_body name) (container_named name) is) refl
  thing_there kinds.Item name is = true_false (sym is)
  thing_there kinds.Cookbook name is =
      let some = has_shelf-value versions_total o.shelved.cookbooks name typed.cookbooks_filled is in
      thing_by (key kinds.Cookbook name) (version name some.0) (legal.version_at o meets typed name some.0 some.1 some.2) (ap (λ v. is_some (option_map text v)) some.2) refl
  thing_there kinds.Artifact name is =
      let some = has_shelf-value nat_list_cmp_total o.shelved.artifacts name typed.artifacts_filled is in
      thing_by (key kinds.Artifact name) (artifact name some.0) (legal.artifact_at o meets typed name some.0 some.1 some.2) (ap (λ v. is_some (option_map text v)) some.2) refl
  thing_there kinds.Policy name is =
      let some = has_shelf-value nat_list_cmp_total o.shelved.policies name typed.policies_filled is in
      thing_by (key kinds.Policy name) (revision name some.0) (legal.revision_at o meets typed name some.0 some.1 some.2) (ap (λ v. is_some (option_map text v)) some.2) refl
  thing_there kinds.PolicyGroup name is =
      let some = some_of (finite.get o.shelved.groups name) is in
      thing_by (key kinds.PolicyGroup name) (policy_group name) (legal.policy_group_at o meets typed name some.0 some.1) (mapped_some assigned_body (finite.get o.shelved.groups name) is) refl
  thing_there kinds.Acl name is = true_false (sym is)
  thing_there kinds.Sandbox name is = true_false (sym is)
  thing_there kinds.File name is = true_false (sym is)

  -- ---- the files that manifests name

  stored_committed : (found : Option Stored) → is_committed_file found ≡ true → (x : Stored) × (found ≡ Some x) × (x.committed ≡ true)
  stored_committed None is = true_false (sym is)
  stored_committed (Some x) is = (x, refl, is)

  committed_met : (sum : List ℕ) → is_named o.shelved sum ≡ true → is_met rows org (committed sum) ≡ true
  committed_met sum is =
      let some = stored_committed (finite.get files.files sum) (named_files sum is) in
      ap (λ body. unwrap_or (option_map (λ (x : Stored). x.committed) (option_and_then file_in body)) false) (at_place (file sum) (file_at files typed_files sum some.0 some.1) ∙ ap (option_map file_body) some.1)
      ∙ ap (λ x. unwrap_or (option_map (λ (x : Stored). x.committed) x) false) (file_back some.0)
      ∙ some.2

  manifest_met : (doc : Doc) (content : Content) → document doc ≡ content → ((sum : List ℕ) → names_sum doc sum ≡ true → is_named o.shelved sum ≡ true) → list_all (is_met rows org) (manifest_needs content) ≡ true
  manifest_met doc content same named =
      subst (λ c. list_all (is_met rows org) (manifest_needs c) ≡ true) same (all_listed (is_met rows org) committed (sums_in doc) (λ sum is. committed_met sum (named sum is)))

  -- ---- an item's bag

  bag_of_item : (name : List ℕ) (doc : Doc) → finite.get o.objects (key kinds.Item name) ≡ Some doc → list_all (is_met rows org) (unwrap_or (option_map bag_need (split_at_slash name)) []) ≡ true
  bag_of_item name doc at =
      let is : IsItem name doc = objects_meet.stored (key kinds.Item name) doc at in
      let split : split_at_slash name ≡ Some (is.0, is.1) = ap split_at_slash (is.2 ∙ legal.item_names is.0 is.1) ∙ split-slashed is.0 is.1 (name_bytes is.0 is.3) in
      let bag_is : has o.objects kinds.Bag is.0 ≡ true = objects_meet.bags is.0 is.1 is.3 (ap (λ n. has o.objects kinds.Item n) (sym is.2) ∙ ap is_some at) in
      ap (λ s. list_all (is_met rows org) (unwrap_or (option_map bag_need s) [])) split
      ∙ both_true (is_met rows org (there (object (key kinds.Bag is.0)))) true (object_there kinds.Bag is.0 bag_is) refl

  bag_met : (kind : Kind) (name : List ℕ) (doc : Doc) → finite.get o.objects (key kind name) ≡ Some doc → list_all (is_met rows org) (bag_needs (key kind name)) ≡ true
  bag_met kinds.Org name doc at = refl
  bag_met kinds.Node name doc at = refl
  bag_met kinds.Role name doc at = refl
  bag_met kinds.Environment name doc at = refl
  bag_met kinds.Bag name doc at = refl
  bag_met kinds.Client name doc at = refl
  bag_met kinds.User name doc at = refl
  bag_met kinds.Group name doc at = refl
  bag_met kinds.Container name doc at = refl
  bag_met kinds.Item name doc at =
      elim (same_key (key kinds.Item name) (key kinds.Item name)) as (λ b. list_all (is_met rows org) (cond b (unwrap_or (option_map bag_need (split_at_slash name)) []) []) ≡ true) [
        | true ↦ bag_of_item name doc at
        | false ↦ refl
      ]
  bag_met kinds.Cookbook name doc at = refl
  bag_met kinds.Artifact name doc at = refl
  bag_met kinds.Policy name doc at = refl
  bag_met kinds.PolicyGroup name doc at = refl
  bag_met kinds.Acl name doc at = refl
  bag_met kinds.Sandbox name doc at = refl
  bag_met kinds.File name doc at = refl

  -- ---- a user, whose name no client has

  tested : {X : Type 0} (test : Bool) (x y : X) → cond test (Some x) None ≡ Some y → test ≡ true
  tested true x y is = refl
  tested false x y is = cc is

  other_false : (a b : Bool) → (a && b) ≡ false → a ≡ true → b ≡ false
  other_false true b is a_is = is
  other_false false b is a_is = true_false (sym a_is)

  mapped_is : {X Y : Type 0} (f : X → Y) (found : Option X) → is_some (option_map f found) ≡ is_some found
  mapped_is f None = refl
  mapped_is f (Some x) = refl

  client_place : (name : List ℕ) → membership.has o.membership member.User name ≡ true → IsPlace (object (key kinds.Client name))
  client_place name is =
      ap (λ b. where_ b (object (key kinds.Client name))) (both_true (is_name name) (not (bytes_eq name operator)) (access.named member.User name is) (ap not (legal.user_not_operator o meets typed name is)))

  no_client : (name : List ℕ) → membership.has o.membership member.User name ≡ true → has_row rows org (object (key kinds.Client name)) ≡ false
  no_client name is =
      ap is_some (at_place (object (key kinds.Client name)) (client_place name is))
      ∙ mapped_is text (finite.get o.objects (key kinds.Client name))
      ∙ sym (clients_meet name)
      ∙ other_false (membership.has o.membership member.User name) (membership.has o.membership member.Client name) (access.apart.apart name) is

  -- ---- groups, lists and policy groups

  members_met : (name : List ℕ) (found : Members) → finite.get o.membership.groups name ≡ Some found → list_all (is_met rows org) (member_needs found) ≡ true
  members_met name found at =
      let users = map (λ other. there (user other)) (set.items found.users) in
      let clients = map (λ other. there (object (key kinds.Client other))) (set.items found.clients) in
      all_both (is_met rows org) (users ++ clients) (map (λ other. there (group other)) (set.items found.groups))
      (all_both (is_met rows org) users clients
      (all_items (is_met rows org) (λ other. there (user other)) found.users (λ other is. user_there other (access.members name found member.User other at is)))
      (all_items (is_met rows org) (λ other. there (object (key kinds.Client other))) found.clients (λ other is. client_there other (access.members name found member.Client other at is))))
      (all_items (is_met rows org) (λ other. there (group other)) found.groups (λ other is. group_there other (access.members name found member.Group other at is)))

  one_of : (a b c d e : Bool) → (b ≡ true → d ≡ true) → (c ≡ true → e ≡ true) → (a || (b || c)) ≡ true → (a || (d || e)) ≡ true
  one_of true b c d e first second is = refl
  one_of false true c d e first second is = either_true d e (first refl)
  one_of false false c d e first second is = or_true d e (second is)

  actor_met : (name : List ℕ) → membership.is_actor o.membership name ≡ true → is_met rows org (actor name) ≡ true
  actor_met name is =
      one_of (bytes_eq name operator) (membership.has o.membership member.User name) (membership.has o.membership member.Client name) (has_row rows org (user name)) (has_row rows org (object (key kinds.Client name)))
      (user_there name) (client_there name) is

  entry_met : (k : Key) (found : Acl) → finite.get o.lists k ≡ Some found → (permission : Perm) → list_all (is_met rows org) (entry_needs (entry_of permission found)) ≡ true
  entry_met k found at permission =
      all_both (is_met rows org) (map actor (entry_of permission found).actors) (map (λ name. there (group name)) (entry_of permission found).groups)
      (all_listed (is_met rows org) actor (entry_of permission found).actors (λ name is. actor_met name (access.actors k found permission name at is)))
      (all_listed (is_met rows org) (λ name. there (group name)) (entry_of permission found).groups (λ name is. group_there name (access.groups k found permission name at is)))

  entries_met : (k : Key) (found : Acl) → finite.get o.lists k ≡ Some found → (permissions : List Perm) → list_all (is_met rows org) (flat_map (λ permission. entry_needs (entry_of permission found)) permissions) ≡ true
  entries_met k found at [] = refl
  entries_met k found at (permission ∷ rest) =
      all_both (is_met rows org) (entry_needs (entry_of permission found)) (flat_map (λ permission. entry_needs (entry_of permission found)) rest) (entry_met k found at permission) (entries_met k found at rest)

  all_assigned : (es : List (List ℕ × List ℕ)) → AllEntries text_cmp nat_list_cmp_total (λ policy id. is_met rows org (there (revision policy id)) ≡ true) es → list_all (is_met rows org) (map (λ (entry : List ℕ × List ℕ). there (revision entry.0 entry.1)) es) ≡ true
  all_assigned [] all = refl
  all_assigned (e ∷ es) all = both_true (is_met rows org (there (revision e.0 e.1))) _ all.0 (all_assigned es all.1)

  revision_met : (name : List ℕ) (found : Assigned) → finite.get o.shelved.groups name ≡ Some found → (policy id : List ℕ) → finite.get found policy ≡ Some id → is_met rows org (there (revision policy id)) ≡ true
  revision_met name found at policy id is =
      let known : is_some (value_at o.shelved.policies policy id) ≡ true = shelves_meet.assigned name policy id (ap (option_and_then (λ (a : Assigned). finite.get a policy)) at ∙ is) in
      let some = some_of (value_at o.shelved.policies policy id) known in
      row_there (revision policy id) (legal.revision_at o meets typed policy id some.0 some.1) (mapped_some text (value_at o.shelved.policies policy id) known)

  assigned_met : (name : List ℕ) (found : Assigned) → finite.get o.shelved.groups name ≡ Some found → list_all (is_met rows org) (assigned_needs found) ≡ true
  assigned_met name found at =
      all_assigned (finite.entries found) (all_entries text_cmp nat_list_cmp_total (λ policy id. is_met rows org (there (revision policy id)) ≡ true) found (revision_met name found at))

  -- ---- all that a row asks for

  own_met : (place : Place) (content : Content) → content_in o files place ≡ Some content → list_all (is_met rows org) (own_needs place content) ≡ true
  own_met itself content at = refl
  own_met (object k) content at = let found = of_value document (finite.get o.objects k) content at in bag_met k.kind k.name found.0 found.1
  own_met (user name) content at =
      both_true (is_met rows org (not_there (object (key kinds.Client name)))) true (ap not (no_client name (tested (set.contains o.membership.users name) name_alone content at))) refl
  own_met (group name) content at =
      let found = of_value members (finite.get o.membership.groups name) content at in
      subst (λ c. list_all (is_met rows org) (said_needs c) ≡ true) found.2 (members_met name found.0 found.1)
  own_met (container name) content at = refl
  own_met (version name number) content at =
      let found = of_value document (value_at o.shelved.cookbooks name number) content at in
      manifest_met found.0 content found.2 (λ sum is. either_true (store_names sum o.shelved.cookbooks) (store_names sum o.shelved.artifacts) (named_by o.shelved.cookbooks name number found.0 sum found.1 is))
  own_met (artifact name id) content at =
      let found = of_value document (value_at o.shelved.artifacts name id) content at in
      manifest_met found.0 content found.2 (λ sum is. or_true (store_names sum o.shelved.cookbooks) (store_names sum o.shelved.artifacts) (named_by o.shelved.artifacts name id found.0 sum found.1 is))
  own_met (revision policy id) content at = refl
  own_met (policy_group name) content at =
      let found = of_value assigned (finite.get o.shelved.groups name) content at in
      subst (λ c. list_all (is_met rows org) (said_needs c) ≡ true) found.2 (assigned_met name found.0 found.1)
  own_met (acl k) content at =
      let found = of_value list (finite.get o.lists k) content at in
      both_true (is_met rows org (thing k)) (list_all (is_met rows org) (said_needs content)) (thing_there k.kind k.name (sym (access.listed k) ∙ ap is_some found.1))
      (subst (λ c. list_all (is_met rows org) (said_needs c) ≡ true) found.2 (entries_met k found.0 found.1 (Create ∷ Read ∷ Update ∷ Delete ∷ Grant ∷ [])))
  own_met (sandbox id) content at = refl
  own_met (file sum) content at = refl

  pub references_met : (row : RowKey) (place : Place) (content : Content) → content_in o files place ≡ Some content → list_all (is_met rows org) (needs_of rows row place content) ≡ true
  references_met row place content at =
      all_both (is_met rows org) (org_needs rows row ++ list_need rows row (thing_at place)) (own_needs place content)
      (all_both (is_met rows org) (org_needs rows row) (list_need rows row (thing_at place)) (org_met row) (list_met row (thing_at place) (λ k is. thing_listed place content k at is)))
      (own_met place content at)

  pub digest_met : (place : Place) (content : Content) → content_in o files place ≡ Some content → has_digest place content ≡ true
  digest_met itself content at = refl
  digest_met (object k) content at = refl
  digest_met (user name) content at = refl
  digest_met (group name) content at = refl
  digest_met (container name) content at = refl
  digest_met (version name number) content at = refl
  digest_met (artifact name id) content at = refl
  digest_met (revision policy id) content at = refl
  digest_met (policy_group name) content at = refl
  digest_met (acl k) content at = refl
  digest_met (sandbox id) content at = refl
  digest_met (file sum) content at =
      let found = of_value stored (finite.get files.files sum) content at in
      subst (λ c. has_digest (file sum) c ≡ true) found.2 ((bytes_decides (checksum_of found.0.file) sum).1 (typed_files.named sum found.0 found.1))

  -- ---- what has a body says something

  value_content : {X : Type 0} (write : X → List ℕ) (make : X → Content) (found : Option X) (body : List ℕ) → option_map write found ≡ Some body → (content : Content) × (option_map make found ≡ Some content)
  value_content write make None body is = cc is
  value_content write make (Some x) body is = (make x, refl)

  pub some_content : (place : Place) (body : List ℕ) → body_in o files place ≡ Some body → (content : Content) × (content_in o files place ≡ Some content)
  some_content itself body is = (count files.count, refl)
  some_content (object k) body is = value_content text document (finite.get o.objects k) body is
  some_content (user name) body is = (name_alone, ap (λ b. cond b (Some name_alone) None) (tested (set.contains o.membership.users name) (name_body name) body is))
  some_content (group name) body is = value_content (group_body name) members (finite.get o.membership.groups name) body is
  some_content (container name) body is = value_content (λ _. name_body name) (λ _. name_alone) (container_named name) body is
  some_content (version name number) body is = value_content text document (value_at o.shelved.cookbooks name number) body is
  some_content (artifact name id) body is = value_content text document (value_at o.shelved.artifacts name id) body is
  some_content (revision policy id) body is = value_content text document (value_at o.shelved.policies policy id) body is
  some_content (policy_group name) body is = value_content assigned_body assigned (finite.get o.shelved.groups name) body is
  some_content (acl k) body is = value_content acl_body list (finite.get o.lists k) body is
  some_content (sandbox id) body is = value_content sandbox_body sums (finite.get files.sandboxes id) body is
  some_content (file sum) body is = value_content file_body stored (finite.get files.files sum) body is

-- ---- no row has a reason

module _ (lies_here : List ℕ → Bool) (states : List ℕ → FullState) (legal_states : (org : List ℕ) → IsLegal (states org)) (locks : (org : List ℕ) → LocksReadBack (states org).state)
    (named : (org : List ℕ) → is_some (states org).state ≡ true → (is_organisation_name org ≡ true) × (lies_here org ≡ true)) (rows : KeptRows) (are : AreRowsOf states rows) (row : RowKey) (body : List ℕ) where
  no_reason_of_content : (place : Place) (content : Content) → lies_here row.org ≡ true → has_references rows row place content ≡ true → has_digest place content ≡ true → reason_of_content lies_here rows row place content ≡ None
  no_reason_of_content place content lies references digest =
      ap (λ b. cond (not b) (Some reason.Shard) (cond (not (has_references rows row place content)) (Some reason.Reference) (cond (not (has_digest place content)) (Some reason.Digest) None))) lies
      ∙ ap (λ b. cond (not b) (Some reason.Reference) (cond (not (has_digest place content)) (Some reason.Digest) None)) references
      ∙ ap (λ b. cond (not b) (Some reason.Digest) None) digest

  no_reason_of_kind : (kind : Option Kind) (place : Place) (content : Content) → option_and_then (λ kind. place_in kind row.name) kind ≡ Some place → is_organisation_name row.org ≡ true
      → content_at place body ≡ Some content → reason_of_content lies_here rows row place content ≡ None → reason_of_kind lies_here rows row body kind ≡ None
  no_reason_of_kind None place content at org said none = cc at
  no_reason_of_kind (Some kind) place content at org said none =
      ap (λ b. reason_of_named lies_here rows row body (cond b (place_in kind row.name) None)) org
      ∙ ap (reason_of_named lies_here rows row body) at
      ∙ ap (reason_of_said lies_here rows row place) said
      ∙ none

  no_reason_at : (o : Organisation) → (states row.org).state ≡ Some o → (found : Option Place) → place_of row ≡ found → option_and_then (body_in o (states row.org).files) found ≡ Some body → reason_of lies_here rows row body ≡ None
  no_reason_at o there_is None at is = cc is
  no_reason_at o there_is (Some place) at is =
      let full = states row.org in
      let own = legal_states row.org in
      let meets : MeetsConditions (Some o) = subst MeetsConditions there_is own.conditions in
      let typed : IsTyped o = subst IsTypedState there_is own.typed in
      let named_files : AreThere o.shelved full.files = subst (λ s. AreThere (shelved_of s) full.files) there_is own.file_conditions.named in
      let own_locks : LocksReadBack (Some o) = subst LocksReadBack there_is (locks row.org) in
      let are_own : (r : RowKey) → r.org ≡ row.org → finite.get rows r ≡ option_and_then (body_in o full.files) (place_of r) =
      λ r same. are r ∙ ap (λ org. row_in (states org) r) same ∙ ap (λ s. option_and_then (body_of s full.files) (place_of r)) there_is in
      let says = some_content rows row.org o full.files meets typed own.typed_files named_files are_own place body is in
      let of_org = named row.org (ap is_some there_is) in
      no_reason_of_kind (kind_named row.kind) place says.0 at of_org.0
      (said_at o full.files meets typed own_locks own.typed_files place body is ∙ says.1)
      (no_reason_of_content place says.0 of_org.1
      (references_met rows row.org o full.files meets typed own.typed_files named_files are_own row place says.0 says.1)
      (digest_met rows row.org o full.files meets typed own.typed_files named_files are_own place says.0 says.1))

  no_body : (found : Option Place) → option_and_then (body_of None (states row.org).files) found ≡ Some body → reason_of lies_here rows row body ≡ None
  no_body None is = cc is
  no_body (Some place) is = cc is

  no_reason_in : (s : State) → (states row.org).state ≡ s → option_and_then (body_of s (states row.org).files) (place_of row) ≡ Some body → reason_of lies_here rows row body ≡ None
  no_reason_in None s is = no_body (place_of row) is
  no_reason_in (Some o) s is = no_reason_at o s (place_of row) refl is

  no_reason : finite.get rows row ≡ Some body → reason_of lies_here rows row body ≡ None
  no_reason at = no_reason_in (states row.org).state refl (sym (are row) ∙ at)

pub rows_good : RowsAreGood
rows_good lies_here states legal_states locks named rows are row body at = no_reason lies_here states legal_states locks named rows are row body at
