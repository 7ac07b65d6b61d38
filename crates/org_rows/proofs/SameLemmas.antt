-- Legal states of the same rows are the same.
use Rattle.std.proofs.Common.{◌≡◌, ℕ, Bool, true, false, cond, ◌||◌, List, [], ◌∷◌, bytes_eq, is_some, unwrap_or, IsUtf8, Option, Some, None, option_map, option_and_then, refl, sym, ap, subst, ◌∙◌}
use Rattle.std.specs.Cmp.{IsTotalOrder}
use Rattle.std.specs.Cmp.Lexicographic.{bytes_decides, nat_list_cmp_total}
use Rattle.std.specs.FinMap as finite
use Rattle.std.specs.FinSet as set
use Rattle.std.specs.Ordering.{is_eq}
use Rattle.std.specs.declared.cmp.Ordering.{Ordering}
use Rattle.dep_solver.proofs.VersionLemmas.{versions_total}
use Rattle.doc_tree.proofs.RoundTrip.{text-inj}
use Rattle.doc_tree.specs.Text.{text_cmp}
use Rattle.doc_tree.specs.Valid.{IsDoc}
use Rattle.doc_tree.specs.Written.{text}
use Rattle.doc_tree.specs.declared.kind.Kind.TheVariants as kinds
use Rattle.membership.specs.Actors.{operator}
use Rattle.membership.specs.Actors as membership
use Rattle.membership.specs.Members.{Members}
use Rattle.membership.specs.declared.member_kind.MemberKind.{MemberKind}
use Rattle.membership.specs.declared.member_kind.MemberKind.TheVariants as member
use Rattle.access_lists.specs.Acls.{entry_of}
use Rattle.access_lists.specs.Forms.{acl_in, acl_doc}
use Rattle.access_lists.specs.declared.acl.Acl.{Acl}
use Rattle.access_lists.specs.declared.perm.Perm.{Perm}
use Rattle.access_lists.specs.declared.perm.Perm.TheVariants.{Create, Read, Update, Delete, Grant}
use Rattle.object_store.specs.Keys.{key_cmp_total, key_cmp_ties}
use Rattle.object_store.specs.declared.key.Key.{Key}
use Rattle.org_core.specs.AccessConditions.{AccessConditions, has_member}
use Rattle.org_core.specs.Conditions.{MeetsConditions}
use Rattle.org_core.specs.FullStates.{FullState}
use Rattle.org_core.specs.ObjectConditions.{has}
use Rattle.org_core.specs.States.{Organisation, State}
use Rattle.org_shelves.proofs.DroppedLemmas.{tied_version}
use Rattle.org_shelves.specs.Conditions.{ShelfConditions}
use Rattle.org_shelves.specs.Shelved.{Assigned}
use Rattle.outside_keeper.specs.declared.row_key.RowKey.{RowKey}
use Rattle.sandboxes.specs.Sandboxes.{Holding}
use Rattle.sandboxes.specs.Sums.{Sums}
use Rattle.sandboxes.specs.declared.stored.Stored.{Stored}
use Rattle.shelves.proofs.ShelfLaws.{has_shelf-value, text_same}
use Rattle.shelves.specs.Shelves.{AreFilled, Store, value_at}
use Rattle.version_rules.specs.Order.{version_cmp}
use Rattle.org_rows.specs.Bodies.{acl_body, assigned_body, body_at, body_in, body_of, count_body, file_body, group_body, name_body, sandbox_body}
use Rattle.org_rows.specs.Laws.{RowsTellStates}
use Rattle.org_rows.specs.Legal.{AreTypedFiles, IsLegal, IsTyped, IsTypedState}
use Rattle.org_rows.specs.Places.{Place, itself, object, user, group, version, artifact, revision, policy_group, acl, sandbox, file, IsPlace, row_of, where_}
use Rattle.org_rows.specs.Reading.{assigned_in as assigned_said, count_in, members_in, sums_in}
use Rattle.org_rows.specs.Rows.{row_in}
use Rattle.org_rows.proofs.BodyLemmas.{AreAssignedTexts, AreEntryNames, AreEntryTexts, AreGoodSums, AreMemberTexts, Fits, IsDoc-acl, IsDoc-assigned, IsDoc-count, IsDoc-members, IsDoc-sums, IsGoodAcl, acl_reads, assigned_back, assigned_doc, count_back, count_doc, file_body-inj, members_back, members_doc, same_by_reading, sums_back, sums_doc}
use Rattle.org_rows.proofs.EntryLemmas.{AllEntries, all_entries}
use Rattle.org_rows.proofs.LegalLemmas as legal
use Rattle.org_rows.proofs.PlaceLemmas.{place_of-row_of}
use Rattle.org_rows.proofs.TextLemmas.{IsUtf8-name, items_are, texts_are}
use Rattle.org_rows.proofs.WordLemmas.{some_same, true_false}

-- ---- a value is known by what is written of it

module _ {X : Type 0} (write : X → List ℕ) (At : Type 0) (IsGood : X → Type 0) (one : (x y : X) → IsGood x → IsGood y → write x ≡ write y → x ≡ y) where
  pub same_value : (a b : Option X) → ((x : X) → a ≡ Some x → At × IsGood x) → ((x : X) → b ≡ Some x → At × IsGood x) → (At → option_map write a ≡ option_map write b) → a ≡ b
  same_value None None left right is = refl
  same_value None (Some y) left right is = cc (is (right y refl).0)
  same_value (Some x) None left right is = cc (is (left x refl).0)
  same_value (Some x) (Some y) left right is = ap (λ z. Some z) (one x y (left x refl).1 (right y refl).1 (some_same (write x) (write y) (is (left x refl).0)))

-- whether a test holds is known by whether something is written
same_test : {X : Type 0} (x : X) (At : Type 0) (a b : Bool) → (a ≡ true → At) → (b ≡ true → At) → (At → ◌≡◌ {A = Option X} (cond a (Some x) None) (cond b (Some x) None)) → a ≡ b
same_test x At true true left right is = refl
same_test x At false false left right is = refl
same_test x At true false left right is = cc (is (left refl))
same_test x At false true left right is = cc (is (right refl))

-- ---- shelves are known by their values, where none is empty

module _ {K V : Type 0} {cmp : K → K → Ordering} (total : IsTotalOrder cmp) (ties : finite.IsAntisymmetric cmp) (m n : Store cmp V) (left : AreFilled m) (right : AreFilled n) (values : (name : List ℕ) (k : K) → value_at m name k ≡ value_at n name k) where
  no_value : (shelves : Store cmp V) (name : List ℕ) (k : K) → finite.get shelves name ≡ None → value_at shelves name k ≡ None
  no_value shelves name k none = ap (λ o. finite.get (unwrap_or o finite.empty) k) none ∙ finite.get-empty cmp k

  has_it : (shelves : Store cmp V) (name : List ℕ) (shelf : finite.FinMap cmp V) → finite.get shelves name ≡ Some shelf → is_some (finite.get shelves name) ≡ true
  has_it shelves name shelf is = ap is_some is

  same_at : (name : List ℕ) (a b : Option (finite.FinMap cmp V)) → finite.get m name ≡ a → finite.get n name ≡ b → a ≡ b
  same_at name None None a b = refl
  same_at name (Some s) None a b =
      let some = has_shelf-value total m name left (has_it m name s a) in
      cc (sym some.2 ∙ values name some.0 ∙ no_value n name some.0 b)
  same_at name None (Some t) a b =
      let some = has_shelf-value total n name right (has_it n name t b) in
      cc (sym some.2 ∙ sym (values name some.0) ∙ no_value m name some.0 a)
  same_at name (Some s) (Some t) a b =
      ap (λ z. Some z) (finite.same_map total ties s t (λ k. ap (λ o. finite.get (unwrap_or o finite.empty) k) (sym a) ∙ values name k ∙ ap (λ o. finite.get (unwrap_or o finite.empty) k) b))

  pub same_store : m ≡ n
  same_store = finite.same_map nat_list_cmp_total text_same m n (λ name. same_at name (finite.get m name) (finite.get n name) refl refl)

ties_version : finite.IsAntisymmetric version_cmp
ties_version v w tie = tied_version v w (ap is_eq tie)

some_of : {X : Type 0} (o : Option X) → is_some o ≡ true → (x : X) × (o ≡ Some x)
some_of None is = true_false (sym is)
some_of (Some x) is = (x, refl)

entry_names : (es : List (List ℕ × List ℕ)) → AllEntries text_cmp nat_list_cmp_total (λ policy id. IsUtf8 policy × IsUtf8 id) es → AreEntryNames es
entry_names [] all = tt
entry_names (e ∷ es) all = (all.0, entry_names es all.1)

-- ---- a group, files and sandboxes

abbrev IsGoodGroup : List ℕ → Members → Type 0
IsGoodGroup name members = IsUtf8 name × AreMemberTexts members

same_group : (name : List ℕ) (x y : Members) → IsGoodGroup name x → IsGoodGroup name y → group_body name x ≡ group_body name y → x ≡ y
same_group name x y good other same =
    same_by_reading (members_doc name good.0) members_in AreMemberTexts (IsDoc-members name good.0) (members_back name good.0) x y good.1 other.1 same

pub file_at : (files : Holding) → AreTypedFiles files → (sum : List ℕ) (stored : Stored) → finite.get files.files sum ≡ Some stored → IsPlace (file sum)
file_at files typed sum stored is = ap (λ b. where_ b (file sum)) (typed.checksums sum stored is)

pub sandbox_at : (files : Holding) → AreTypedFiles files → (id : List ℕ) (sums : Sums) → finite.get files.sandboxes id ≡ Some sums → IsPlace (sandbox id)
sandbox_at files typed id sums is = ap (λ b. where_ b (sandbox id)) (typed.ids id sums is)

-- ---- the texts of a legal organisation

module _ (o : Organisation) (meets : MeetsConditions (Some o)) (typed : IsTyped o) where
  access : AccessConditions o
  access = meets.1.0

  shelves_meet : ShelfConditions o.shelved
  shelves_meet = meets.1.1.1

  member_text : (groups : List ℕ) (m : Members) → finite.get o.membership.groups groups ≡ Some m → (kind : MemberKind) (name : List ℕ) → has_member kind name m ≡ true → IsUtf8 name
  member_text groups m is kind name listed = IsUtf8-name name (access.named kind name (access.members groups m kind name is listed))

  pub members_good : (groups : List ℕ) (m : Members) → finite.get o.membership.groups groups ≡ Some m → AreMemberTexts m
  members_good groups m is =
      (items_are m.users (member_text groups m is member.User), (items_are m.clients (member_text groups m is member.Client), items_are m.groups (member_text groups m is member.Group)))

  actor_text : (name : List ℕ) (a b c : Bool) → bytes_eq name operator ≡ a → membership.has o.membership member.User name ≡ b → membership.has o.membership member.Client name ≡ c → (a || (b || c)) ≡ true → IsUtf8 name
  actor_text name true b c same user_is client_is is = subst IsUtf8 (sym ((bytes_decides name operator).0 same)) (IsUtf8-name operator refl)
  actor_text name false true c same user_is client_is is = IsUtf8-name name (access.named member.User name user_is)
  actor_text name false false true same user_is client_is is = IsUtf8-name name (access.named member.Client name client_is)
  actor_text name false false false same user_is client_is is = true_false (sym is)

  entry_good : (k : Key) (list : Acl) → finite.get o.lists k ≡ Some list → (permission : Perm) → AreEntryTexts (entry_of permission list)
  entry_good k list is permission = (
    texts_are (entry_of permission list).actors (λ name listed. actor_text name (bytes_eq name operator) (membership.has o.membership member.User name) (membership.has o.membership member.Client name) refl refl refl (access.actors k list permission name is listed)),
    texts_are (entry_of permission list).groups (λ name listed. IsUtf8-name name (access.named member.Group name (access.groups k list permission name is listed))),
  )

  pub list_good : (k : Key) (list : Acl) → finite.get o.lists k ≡ Some list → IsGoodAcl list
  list_good k list is =
      (typed.lists k list is, (entry_good k list is Create, (entry_good k list is Read, (entry_good k list is Update, (entry_good k list is Delete, entry_good k list is Grant)))))

  -- the names that a policy group assigns
  assigned_names : (name : List ℕ) (assigned : Assigned) → finite.get o.shelved.groups name ≡ Some assigned → (policy id : List ℕ) → finite.get assigned policy ≡ Some id → IsUtf8 policy × IsUtf8 id
  assigned_names name assigned is policy id at =
      let some = some_of (value_at o.shelved.policies policy id) (shelves_meet.assigned name policy id (ap (option_and_then (λ (a : Assigned). finite.get a policy)) is ∙ at)) in
      let of = shelves_meet.revisions policy id some.0 some.1 in
      (IsUtf8-name policy of.0, IsUtf8-name id of.1.0)

  pub assigned_good : (name : List ℕ) (assigned : Assigned) → finite.get o.shelved.groups name ≡ Some assigned → AreAssignedTexts assigned
  assigned_good name assigned is = entry_names (finite.entries assigned) (all_entries text_cmp nat_list_cmp_total (λ policy id. IsUtf8 policy × IsUtf8 id) assigned (assigned_names name assigned is))

-- ---- two legal organisations that have the same at each place

module _ (o p : Organisation) (files others : Holding) (left : MeetsConditions (Some o)) (right : MeetsConditions (Some p)) (left_typed : IsTyped o) (right_typed : IsTyped p) (left_files : AreTypedFiles files) (right_files : AreTypedFiles others)
    (is : (place : Place) → IsPlace place → body_in o files place ≡ body_in p others place) where
  same_objects : o.objects ≡ p.objects
  same_objects =
      finite.same_map key_cmp_total key_cmp_ties o.objects p.objects (λ k.
      same_value text (IsPlace (object k)) IsDoc text-inj (finite.get o.objects k) (finite.get p.objects k)
      (λ doc at. (legal.object_at o left left_typed k doc at, left_typed.objects k doc at))
      (λ doc at. (legal.object_at p right right_typed k doc at, right_typed.objects k doc at)) (is (object k)))

  same_lists : o.lists ≡ p.lists
  same_lists =
      finite.same_map key_cmp_total key_cmp_ties o.lists p.lists (λ k.
      same_value acl_body (IsPlace (acl k)) IsGoodAcl (same_by_reading acl_doc acl_in IsGoodAcl IsDoc-acl acl_reads) (finite.get o.lists k) (finite.get p.lists k)
      (λ list at. (legal.list_at o left left_typed k list at, list_good o left left_typed k list at))
      (λ list at. (legal.list_at p right right_typed k list at, list_good p right right_typed k list at)) (is (acl k)))

  same_users : o.membership.users ≡ p.membership.users
  same_users =
      set.same_set nat_list_cmp_total text_same o.membership.users p.membership.users (λ name.
      same_test (name_body name) (IsPlace (user name)) (set.contains o.membership.users name) (set.contains p.membership.users name) (legal.user_at o left left_typed name) (legal.user_at p right right_typed name) (is (user name)))

  same_clients : o.membership.clients ≡ p.membership.clients
  same_clients =
      set.same_set nat_list_cmp_total text_same o.membership.clients p.membership.clients (λ name.
      left.1.1.0 name ∙ ap (λ objects. has objects kinds.Client name) same_objects ∙ sym (right.1.1.0 name))

  same_groups : o.membership.groups ≡ p.membership.groups
  same_groups =
      finite.same_map nat_list_cmp_total text_same o.membership.groups p.membership.groups (λ name.
      same_value (group_body name) (IsPlace (group name)) (IsGoodGroup name) (same_group name) (finite.get o.membership.groups name) (finite.get p.membership.groups name)
      (λ members at. (legal.group_at o left left_typed name members at, (IsUtf8-name name (legal.group_name o left left_typed name members at), members_good o left left_typed name members at)))
      (λ members at. (legal.group_at p right right_typed name members at, (IsUtf8-name name (legal.group_name p right right_typed name members at), members_good p right right_typed name members at))) (is (group name)))

  same_membership : o.membership ≡ p.membership
  same_membership = λ i. record { users = same_users i; clients = same_clients i; groups = same_groups i }

  same_cookbooks : o.shelved.cookbooks ≡ p.shelved.cookbooks
  same_cookbooks =
      same_store versions_total ties_version o.shelved.cookbooks p.shelved.cookbooks left_typed.cookbooks_filled right_typed.cookbooks_filled (λ name number.
      same_value text (IsPlace (version name number)) IsDoc text-inj (value_at o.shelved.cookbooks name number) (value_at p.shelved.cookbooks name number)
      (λ doc at. (legal.version_at o left left_typed name number doc at, (left_typed.versions name number doc at).0))
      (λ doc at. (legal.version_at p right right_typed name number doc at, (right_typed.versions name number doc at).0)) (is (version name number)))

  same_artifacts : o.shelved.artifacts ≡ p.shelved.artifacts
  same_artifacts =
      same_store nat_list_cmp_total text_same o.shelved.artifacts p.shelved.artifacts left_typed.artifacts_filled right_typed.artifacts_filled (λ name id.
      same_value text (IsPlace (artifact name id)) IsDoc text-inj (value_at o.shelved.artifacts name id) (value_at p.shelved.artifacts name id)
      (λ doc at. (legal.artifact_at o left left_typed name id doc at, left_typed.artifacts name id doc at))
      (λ doc at. (legal.artifact_at p right right_typed name id doc at, right_typed.artifacts name id doc at)) (is (artifact name id)))

  same_policies : o.shelved.policies ≡ p.shelved.policies
  same_policies =
      same_store nat_list_cmp_total text_same o.shelved.policies p.shelved.policies left_typed.policies_filled right_typed.policies_filled (λ policy id.
      same_value text (IsPlace (revision policy id)) IsDoc text-inj (value_at o.shelved.policies policy id) (value_at p.shelved.policies policy id)
      (λ doc at. (legal.revision_at o left left_typed policy id doc at, left_typed.revisions policy id doc at))
      (λ doc at. (legal.revision_at p right right_typed policy id doc at, right_typed.revisions policy id doc at)) (is (revision policy id)))

  same_policy_groups : o.shelved.groups ≡ p.shelved.groups
  same_policy_groups =
      finite.same_map nat_list_cmp_total text_same o.shelved.groups p.shelved.groups (λ name.
      same_value assigned_body (IsPlace (policy_group name)) AreAssignedTexts (same_by_reading assigned_doc assigned_said AreAssignedTexts IsDoc-assigned assigned_back) (finite.get o.shelved.groups name) (finite.get p.shelved.groups name)
      (λ assigned at. (legal.policy_group_at o left left_typed name assigned at, assigned_good o left left_typed name assigned at))
      (λ assigned at. (legal.policy_group_at p right right_typed name assigned at, assigned_good p right right_typed name assigned at)) (is (policy_group name)))

  same_shelves : o.shelved ≡ p.shelved
  same_shelves = λ i. record { cookbooks = same_cookbooks i; artifacts = same_artifacts i; policies = same_policies i; groups = same_policy_groups i }

  pub same_organisation : o ≡ p
  same_organisation = λ i. record { objects = same_objects i; lists = same_lists i; membership = same_membership i; shelved = same_shelves i }

  same_stock : files.files ≡ others.files
  same_stock =
      finite.same_map nat_list_cmp_total text_same files.files others.files (λ sum.
      same_value file_body (IsPlace (file sum)) (λ _. Unit {0}) (λ x y _ _ same. file_body-inj x y same) (finite.get files.files sum) (finite.get others.files sum)
      (λ stored at. (file_at files left_files sum stored at, tt)) (λ stored at. (file_at others right_files sum stored at, tt)) (is (file sum)))

  same_sandboxes : files.sandboxes ≡ others.sandboxes
  same_sandboxes =
      finite.same_map nat_list_cmp_total text_same files.sandboxes others.sandboxes (λ id.
      same_value sandbox_body (IsPlace (sandbox id)) AreGoodSums (same_by_reading sums_doc sums_in AreGoodSums IsDoc-sums sums_back) (finite.get files.sandboxes id) (finite.get others.sandboxes id)
      (λ sums at. (sandbox_at files left_files id sums at, left_files.sums id sums at)) (λ sums at. (sandbox_at others right_files id sums at, right_files.sums id sums at)) (is (sandbox id)))

  same_count : files.count ≡ others.count
  same_count =
      same_by_reading count_doc count_in Fits IsDoc-count count_back files.count others.count left_files.count right_files.count (some_same (count_body files.count) (count_body others.count) (is itself refl))

  pub same_holding : files ≡ others
  same_holding = λ i. record { files = same_stock i; sandboxes = same_sandboxes i; count = same_count i }

-- ---- two legal full states, and maps of states

module _ (f g : FullState) (left : IsLegal f) (right : IsLegal g) where
  same_states : (s t : State) → f.state ≡ s → g.state ≡ t → ((place : Place) → IsPlace place → body_of s f.files place ≡ body_of t g.files place) → f ≡ g
  same_states None None s t is =
      λ i. record { state = (s ∙ sym t) i; files = (left.file_conditions.nobody s ∙ sym (right.file_conditions.nobody t)) i }
  same_states (Some o) None s t is = cc (is itself refl)
  same_states None (Some p) s t is = cc (is itself refl)
  same_states (Some o) (Some p) s t is =
      let meets = subst MeetsConditions s left.conditions in
      let meets_too = subst MeetsConditions t right.conditions in
      let typed = subst IsTypedState s left.typed in
      let typed_too = subst IsTypedState t right.typed in
      let states = same_organisation o p f.files g.files meets meets_too typed typed_too left.typed_files right.typed_files is in
      let holdings = same_holding o p f.files g.files meets meets_too typed typed_too left.typed_files right.typed_files is in
      λ i. record { state = (s ∙ ap Some states ∙ sym t) i; files = holdings i }

  pub same_full : ((place : Place) → IsPlace place → body_at f place ≡ body_at g place) → f ≡ g
  same_full is = same_states f.state g.state refl refl is

  -- where they have the same rows
  pub same_by_rows : (org : List ℕ) → ((row : RowKey) → row.org ≡ org → row_in f row ≡ row_in g row) → f ≡ g
  same_by_rows org is =
      same_full (λ place at. sym (ap (option_and_then (body_at f)) (place_of-row_of org place at)) ∙ is (row_of org place) refl ∙ ap (option_and_then (body_at g)) (place_of-row_of org place at))

pub rows_tell : RowsTellStates
rows_tell states others left right rows one other =
    λ org. same_by_rows (states org) (others org) (left org) (right org) org (λ row of. subst (λ (name : List ℕ). row_in (states name) row ≡ row_in (others name) row) of (sym (one row) ∙ other row))
