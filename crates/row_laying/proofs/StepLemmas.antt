-- What is laid stands at its place, and every other place keeps what stood there.
use Rattle.std.proofs.Common.{◌≡◌, ◌⊎◌, inl, inr, ℕ, List, Bool, true, false, cond, ◌||◌, Option, Some, None, is_some, option_map, unwrap_or, Ordering, refl, sym, ap, ◌∙◌}
use Rattle.std.specs.Cmp.{IsTotalOrder, Equal-is}
use Rattle.std.specs.Cmp.Lexicographic.{nat_list_cmp_total}
use Rattle.std.specs.FinMap as finite
use Rattle.std.specs.FinSet as set
use Rattle.std.specs.Ordering.{eq_by_cmp}
use Rattle.std.proofs.lemmas.Option.{none-some}
use Rattle.doc_tree.specs.Doc.{Doc}
use Rattle.doc_tree.specs.Text.{text_cmp}
use Rattle.doc_tree.specs.declared.kind.Kind.TheVariants as kinds
use Rattle.version_rules.specs.Order.{version_cmp}
use Rattle.version_rules.specs.declared.versions.Version.{Version}
use Rattle.org_shelves.specs.Shelved.{Assigned}
use Rattle.sandboxes.specs.Sums.{Sums}
use Rattle.membership.specs.Changes.{with_client}
use Rattle.membership.specs.Members.{Membership, GroupsByName}
use Rattle.membership.specs.Rooms.{KeptGroup}
use Rattle.membership.specs.TextSets.{Names}
use Rattle.access_lists.specs.declared.starting.Container.{Container as Starting}
use Rattle.access_lists.specs.declared.acl.Acl.{Acl}
use Rattle.access_lists.specs.Starting.{container_named}
use Rattle.object_store.specs.Keys.{is_of, key_cmp_total}
use Rattle.object_store.specs.declared.key.Key.{Key}
use Rattle.org_core.proofs.ObjectConditionsLemmas.{same_keys}
use Rattle.org_core.specs.States.{Organisation}
use Rattle.org_rows.specs.Places as place
use Rattle.org_rows.specs.Places.{Place, IsPlace}
use Rattle.org_rows.specs.Things.{Content, document, name_alone, members, assigned, list, sums, stored}
use Rattle.sandboxes.specs.Checksums.{checksum_of}
use Rattle.sandboxes.specs.Sandboxes.{Holding}
use Rattle.shelves.proofs.ShelfLaws.{tied_name, same_name, get-insert_same, shelf_of-insert}
use Rattle.shelves.specs.Shelves.{Store, shelf_of, value_at, put}
use Rattle.row_reading.specs.declared.said.Said.{Said}
use Rattle.row_reading.specs.declared.said.Said.TheVariants.{Count, Object, User, Group, Container, Version as AVersion, Artifact, Revision, PolicyGroup, List as AList, Sandbox, File}
use Rattle.org_rows.specs.Contents.{content_in}
use Rattle.row_laying.specs.Laying.{with_client_of, with_said, files_with_said}
use Rattle.row_reading.specs.Sayings.{place_said, content_said}
use Rattle.dep_solver.proofs.VersionLemmas.{version_from_equal, versions_total}

-- a place keeps what stood there, or it is this one and has this content
abbrev pub KeepsOrHas : Place → Content → Place → Option Content → Option Content → Type 0
KeepsOrHas at content q before after = (after ≡ before) ⊎ ((q ≡ at) × (after ≡ Some content))

-- one key more
module _ {K V : Type 0} {R : K → K → Ordering} (ties : (x y : K) → eq_by_cmp R x y ≡ true → x ≡ y) (total : IsTotalOrder R) where
  pub at_key : (to : V → Content) (m : finite.FinMap R V) (key : K) (v : V) (q : K) (at : K → Place)
      → KeepsOrHas (at key) (to v) (at q) (option_map to (finite.get m q)) (option_map to (finite.get (finite.insert m key v) q))
  at_key to m key v q at =
      elim (eq_by_cmp R q key) as (λ b. eq_by_cmp R q key ≡ b → KeepsOrHas (at key) (to v) (at q) (option_map to (finite.get m q)) (option_map to (finite.get (finite.insert m key v) q))) [
        | true ↦ λ same. inr (ap at (ties q key same), ap (option_map to) (finite.get-insert total m key v q) ∙ ap (λ b. option_map to (cond b (Some v) (finite.get m q))) same)
        | false ↦ λ other. inl (ap (option_map to) (finite.get-insert total m key v q) ∙ ap (λ b. option_map to (cond b (Some v) (finite.get m q))) other)
      ] refl

-- one value more under a name at a key
module _ {K : Type 0} {R : K → K → Ordering} (ties : (x y : K) → eq_by_cmp R x y ≡ true → x ≡ y) (total : IsTotalOrder R) where
  -- what stands under the name itself
  here_at : (shelves : Store R Doc) (name : List ℕ) (key : K) (v : Doc) (k : K) → value_at (put name key v shelves) name k ≡ cond (eq_by_cmp R k key) (Some v) (finite.get (shelf_of shelves name) k)
  here_at shelves name key v k =
      ap (λ s. finite.get s k) (shelf_of-insert shelves name (finite.insert (shelf_of shelves name) key v)) ∙ finite.get-insert total (shelf_of shelves name) key v k

  pub at_shelf : (shelves : Store R Doc) (name : List ℕ) (key : K) (v : Doc) (q : List ℕ) (k : K) (at : List ℕ → K → Place)
      → KeepsOrHas (at name key) (document v) (at q k) (option_map document (value_at shelves q k)) (option_map document (value_at (put name key v shelves) q k))
  at_shelf shelves name key v q k at =
      elim (eq_by_cmp text_cmp q name) as (λ b. eq_by_cmp text_cmp q name ≡ b → KeepsOrHas (at name key) (document v) (at q k) (option_map document (value_at shelves q k)) (option_map document (value_at (put name key v shelves) q k))) [
        | true ↦ λ same.
            let is : q ≡ name = tied_name q name same in
            let here : (is : q ≡ name) → value_at (put name key v shelves) q k ≡ cond (eq_by_cmp R k key) (Some v) (finite.get (shelf_of shelves name) k) =
            λ is. ap (λ n. value_at (put name key v shelves) n k) is ∙ here_at shelves name key v k in
            elim (eq_by_cmp R k key) as (λ b. eq_by_cmp R k key ≡ b → KeepsOrHas (at name key) (document v) (at q k) (option_map document (value_at shelves q k)) (option_map document (value_at (put name key v shelves) q k))) [
              | true ↦ λ alike. inr (
                (λ i. at (is i) (ties k key alike i)),
                ap (option_map document) (here is ∙ ap (λ b. cond b (Some v) (finite.get (shelf_of shelves name) k)) alike),
              )
              | false ↦ λ apart. inl (ap (option_map document) (here is ∙ ap (λ b. cond b (Some v) (finite.get (shelf_of shelves name) k)) apart ∙ ap (λ n. value_at shelves n k) (sym is)))
            ] refl
        | false ↦ λ other.
            inl (ap (λ s. option_map document (finite.get (unwrap_or s finite.empty) k)) (finite.get-insert nat_list_cmp_total shelves name (finite.insert (shelf_of shelves name) key v) q
            ∙ ap (λ b. cond b (Some (finite.insert (shelf_of shelves name) key v)) (finite.get shelves q)) other))
      ] refl

-- versions that tie are one
version_ties : (x y : Version) → eq_by_cmp version_cmp x y ≡ true → x ≡ y
version_ties x y same = version_from_equal x y ((Equal-is _).0 same)

-- one user more
at_user : (names : Names) (name q : List ℕ) → KeepsOrHas (place.user name) name_alone (place.user q) (cond (set.contains names q) (Some name_alone) None) (cond (set.contains (set.insert names name) q) (Some name_alone) None)
at_user names name q =
    elim (eq_by_cmp text_cmp q name) as (λ b. eq_by_cmp text_cmp q name ≡ b → KeepsOrHas (place.user name) name_alone (place.user q) (cond (set.contains names q) (Some name_alone) None) (cond (set.contains (set.insert names name) q) (Some name_alone) None)) [
      | true ↦ λ same. inr (ap place.user (tied_name q name same), ap (λ b. cond b (Some name_alone) None) (set.contains-insert nat_list_cmp_total names name q ∙ ap (λ b. b || set.contains names q) same))
      | false ↦ λ other. inl (ap (λ b. cond b (Some name_alone) None) (set.contains-insert nat_list_cmp_total names name q ∙ ap (λ b. b || set.contains names q) other))
    ] refl

-- a client that comes leaves users and groups
users_stay : (key : Key) (m : Membership) → (with_client_of key m).users ≡ m.users
users_stay key m = elim (is_of kinds.Client key) as (λ b. (cond b (with_client key.name m) m).users ≡ m.users) [ true ↦ refl | false ↦ refl ]

groups_stay : (key : Key) (m : Membership) → (with_client_of key m).groups ≡ m.groups
groups_stay key m = elim (is_of kinds.Client key) as (λ b. (cond b (with_client key.name m) m).groups ≡ m.groups) [ true ↦ refl | false ↦ refl ]

step-Count : (n : ℕ) (o : Organisation) (files : Holding) (q : Place)
    → KeepsOrHas (place_said (Count n)) (content_said (Count n)) q (content_in o files q) (content_in (with_said (Count n) o) (files_with_said (Count n) files) q)
step-Count n o files place.itself = inr (refl, refl)
step-Count n o files (place.object k) = inl refl
step-Count n o files (place.user q) = inl refl
step-Count n o files (place.group q) = inl refl
step-Count n o files (place.container q) = inl refl
step-Count n o files (place.version q number) = inl refl
step-Count n o files (place.artifact q qid) = inl refl
step-Count n o files (place.revision q qid) = inl refl
step-Count n o files (place.policy_group q) = inl refl
step-Count n o files (place.acl k) = inl refl
step-Count n o files (place.sandbox q) = inl refl
step-Count n o files (place.file q) = inl refl

step-Object : (key : Key) (object : Doc) (o : Organisation) (files : Holding) (q : Place)
    → KeepsOrHas (place_said (Object key object)) (content_said (Object key object)) q (content_in o files q) (content_in (with_said (Object key object) o) (files_with_said (Object key object) files) q)
step-Object key object o files place.itself = inl refl
step-Object key object o files (place.object k) = at_key same_keys key_cmp_total document o.objects key object k place.object
step-Object key object o files (place.user q) = inl (ap (λ (names : Names). cond (set.contains names q) (Some name_alone) None) (users_stay key o.membership))
step-Object key object o files (place.group q) = inl (ap (λ (groups : GroupsByName). option_map members (finite.get groups q)) (groups_stay key o.membership))
step-Object key object o files (place.container q) = inl refl
step-Object key object o files (place.version q number) = inl refl
step-Object key object o files (place.artifact q qid) = inl refl
step-Object key object o files (place.revision q qid) = inl refl
step-Object key object o files (place.policy_group q) = inl refl
step-Object key object o files (place.acl k) = inl refl
step-Object key object o files (place.sandbox q) = inl refl
step-Object key object o files (place.file q) = inl refl

step-User : (name : List ℕ) (o : Organisation) (files : Holding) (q : Place)
    → KeepsOrHas (place_said (User name)) (content_said (User name)) q (content_in o files q) (content_in (with_said (User name) o) (files_with_said (User name) files) q)
step-User name o files place.itself = inl refl
step-User name o files (place.object k) = inl refl
step-User name o files (place.user q) = at_user o.membership.users name q
step-User name o files (place.group q) = inl refl
step-User name o files (place.container q) = inl refl
step-User name o files (place.version q number) = inl refl
step-User name o files (place.artifact q qid) = inl refl
step-User name o files (place.revision q qid) = inl refl
step-User name o files (place.policy_group q) = inl refl
step-User name o files (place.acl k) = inl refl
step-User name o files (place.sandbox q) = inl refl
step-User name o files (place.file q) = inl refl

step-Group : (name : List ℕ) (group : KeptGroup) (o : Organisation) (files : Holding) (q : Place)
    → KeepsOrHas (place_said (Group name group)) (content_said (Group name group)) q (content_in o files q) (content_in (with_said (Group name group) o) (files_with_said (Group name group) files) q)
step-Group name group o files place.itself = inl refl
step-Group name group o files (place.object k) = inl refl
step-Group name group o files (place.user q) = inl refl
step-Group name group o files (place.group q) = at_key tied_name nat_list_cmp_total members o.membership.groups name group.members q place.group
step-Group name group o files (place.container q) = inl refl
step-Group name group o files (place.version q number) = inl refl
step-Group name group o files (place.artifact q qid) = inl refl
step-Group name group o files (place.revision q qid) = inl refl
step-Group name group o files (place.policy_group q) = inl refl
step-Group name group o files (place.acl k) = inl refl
step-Group name group o files (place.sandbox q) = inl refl
step-Group name group o files (place.file q) = inl refl

step-Container : (name : List ℕ) (o : Organisation) (files : Holding) (q : Place)
    → KeepsOrHas (place_said (Container name)) (content_said (Container name)) q (content_in o files q) (content_in (with_said (Container name) o) (files_with_said (Container name) files) q)
step-Container name o files place.itself = inl refl
step-Container name o files (place.object k) = inl refl
step-Container name o files (place.user q) = inl refl
step-Container name o files (place.group q) = inl refl
step-Container name o files (place.container q) = inl refl
step-Container name o files (place.version q number) = inl refl
step-Container name o files (place.artifact q qid) = inl refl
step-Container name o files (place.revision q qid) = inl refl
step-Container name o files (place.policy_group q) = inl refl
step-Container name o files (place.acl k) = inl refl
step-Container name o files (place.sandbox q) = inl refl
step-Container name o files (place.file q) = inl refl

step-Version : (name : List ℕ) (version : Version) (manifest : Doc) (o : Organisation) (files : Holding) (q : Place)
    → KeepsOrHas (place_said (AVersion name version manifest)) (content_said (AVersion name version manifest)) q (content_in o files q) (content_in (with_said (AVersion name version manifest) o) (files_with_said (AVersion name version manifest) files) q)
step-Version name version manifest o files place.itself = inl refl
step-Version name version manifest o files (place.object k) = inl refl
step-Version name version manifest o files (place.user q) = inl refl
step-Version name version manifest o files (place.group q) = inl refl
step-Version name version manifest o files (place.container q) = inl refl
step-Version name version manifest o files (place.version q number) = at_shelf version_ties versions_total o.shelved.cookbooks name version manifest q number place.version
step-Version name version manifest o files (place.artifact q qid) = inl refl
step-Version name version manifest o files (place.revision q qid) = inl refl
step-Version name version manifest o files (place.policy_group q) = inl refl
step-Version name version manifest o files (place.acl k) = inl refl
step-Version name version manifest o files (place.sandbox q) = inl refl
step-Version name version manifest o files (place.file q) = inl refl

step-Artifact : (name : List ℕ) (id : List ℕ) (manifest : Doc) (o : Organisation) (files : Holding) (q : Place)
    → KeepsOrHas (place_said (Artifact name id manifest)) (content_said (Artifact name id manifest)) q (content_in o files q) (content_in (with_said (Artifact name id manifest) o) (files_with_said (Artifact name id manifest) files) q)
step-Artifact name id manifest o files place.itself = inl refl
step-Artifact name id manifest o files (place.object k) = inl refl
step-Artifact name id manifest o files (place.user q) = inl refl
step-Artifact name id manifest o files (place.group q) = inl refl
step-Artifact name id manifest o files (place.container q) = inl refl
step-Artifact name id manifest o files (place.version q number) = inl refl
step-Artifact name id manifest o files (place.artifact q qid) = at_shelf tied_name nat_list_cmp_total o.shelved.artifacts name id manifest q qid place.artifact
step-Artifact name id manifest o files (place.revision q qid) = inl refl
step-Artifact name id manifest o files (place.policy_group q) = inl refl
step-Artifact name id manifest o files (place.acl k) = inl refl
step-Artifact name id manifest o files (place.sandbox q) = inl refl
step-Artifact name id manifest o files (place.file q) = inl refl

step-Revision : (policy : List ℕ) (id : List ℕ) (lock : Doc) (o : Organisation) (files : Holding) (q : Place)
    → KeepsOrHas (place_said (Revision policy id lock)) (content_said (Revision policy id lock)) q (content_in o files q) (content_in (with_said (Revision policy id lock) o) (files_with_said (Revision policy id lock) files) q)
step-Revision policy id lock o files place.itself = inl refl
step-Revision policy id lock o files (place.object k) = inl refl
step-Revision policy id lock o files (place.user q) = inl refl
step-Revision policy id lock o files (place.group q) = inl refl
step-Revision policy id lock o files (place.container q) = inl refl
step-Revision policy id lock o files (place.version q number) = inl refl
step-Revision policy id lock o files (place.artifact q qid) = inl refl
step-Revision policy id lock o files (place.revision q qid) = at_shelf tied_name nat_list_cmp_total o.shelved.policies policy id lock q qid place.revision
step-Revision policy id lock o files (place.policy_group q) = inl refl
step-Revision policy id lock o files (place.acl k) = inl refl
step-Revision policy id lock o files (place.sandbox q) = inl refl
step-Revision policy id lock o files (place.file q) = inl refl

step-PolicyGroup : (name : List ℕ) (policies : Assigned) (o : Organisation) (files : Holding) (q : Place)
    → KeepsOrHas (place_said (PolicyGroup name policies)) (content_said (PolicyGroup name policies)) q (content_in o files q) (content_in (with_said (PolicyGroup name policies) o) (files_with_said (PolicyGroup name policies) files) q)
step-PolicyGroup name policies o files place.itself = inl refl
step-PolicyGroup name policies o files (place.object k) = inl refl
step-PolicyGroup name policies o files (place.user q) = inl refl
step-PolicyGroup name policies o files (place.group q) = inl refl
step-PolicyGroup name policies o files (place.container q) = inl refl
step-PolicyGroup name policies o files (place.version q number) = inl refl
step-PolicyGroup name policies o files (place.artifact q qid) = inl refl
step-PolicyGroup name policies o files (place.revision q qid) = inl refl
step-PolicyGroup name policies o files (place.policy_group q) = at_key tied_name nat_list_cmp_total assigned o.shelved.groups name policies q place.policy_group
step-PolicyGroup name policies o files (place.acl k) = inl refl
step-PolicyGroup name policies o files (place.sandbox q) = inl refl
step-PolicyGroup name policies o files (place.file q) = inl refl

step-AList : (key : Key) (acl : Acl) (o : Organisation) (files : Holding) (q : Place)
    → KeepsOrHas (place_said (AList key acl)) (content_said (AList key acl)) q (content_in o files q) (content_in (with_said (AList key acl) o) (files_with_said (AList key acl) files) q)
step-AList key acl o files place.itself = inl refl
step-AList key acl o files (place.object k) = inl refl
step-AList key acl o files (place.user q) = inl refl
step-AList key acl o files (place.group q) = inl refl
step-AList key acl o files (place.container q) = inl refl
step-AList key acl o files (place.version q number) = inl refl
step-AList key acl o files (place.artifact q qid) = inl refl
step-AList key acl o files (place.revision q qid) = inl refl
step-AList key acl o files (place.policy_group q) = inl refl
step-AList key acl o files (place.acl k) = at_key same_keys key_cmp_total list o.lists key acl k place.acl
step-AList key acl o files (place.sandbox q) = inl refl
step-AList key acl o files (place.file q) = inl refl

step-Sandbox : (id : List ℕ) (checksums : Sums) (o : Organisation) (files : Holding) (q : Place)
    → KeepsOrHas (place_said (Sandbox id checksums)) (content_said (Sandbox id checksums)) q (content_in o files q) (content_in (with_said (Sandbox id checksums) o) (files_with_said (Sandbox id checksums) files) q)
step-Sandbox id checksums o files place.itself = inl refl
step-Sandbox id checksums o files (place.object k) = inl refl
step-Sandbox id checksums o files (place.user q) = inl refl
step-Sandbox id checksums o files (place.group q) = inl refl
step-Sandbox id checksums o files (place.container q) = inl refl
step-Sandbox id checksums o files (place.version q number) = inl refl
step-Sandbox id checksums o files (place.artifact q qid) = inl refl
step-Sandbox id checksums o files (place.revision q qid) = inl refl
step-Sandbox id checksums o files (place.policy_group q) = inl refl
step-Sandbox id checksums o files (place.acl k) = inl refl
step-Sandbox id checksums o files (place.sandbox q) = at_key tied_name nat_list_cmp_total sums files.sandboxes id checksums q place.sandbox
step-Sandbox id checksums o files (place.file q) = inl refl

step-File : (bytes : List ℕ) (committed : Bool) (o : Organisation) (files : Holding) (q : Place)
    → KeepsOrHas (place_said (File bytes committed)) (content_said (File bytes committed)) q (content_in o files q) (content_in (with_said (File bytes committed) o) (files_with_said (File bytes committed) files) q)
step-File bytes committed o files place.itself = inl refl
step-File bytes committed o files (place.object k) = inl refl
step-File bytes committed o files (place.user q) = inl refl
step-File bytes committed o files (place.group q) = inl refl
step-File bytes committed o files (place.container q) = inl refl
step-File bytes committed o files (place.version q number) = inl refl
step-File bytes committed o files (place.artifact q qid) = inl refl
step-File bytes committed o files (place.revision q qid) = inl refl
step-File bytes committed o files (place.policy_group q) = inl refl
step-File bytes committed o files (place.acl k) = inl refl
step-File bytes committed o files (place.sandbox q) = inl refl
step-File bytes committed o files (place.file q) = at_key tied_name nat_list_cmp_total stored files.files (checksum_of bytes) (record { file = bytes; committed = committed }) q place.file

-- whatever is laid
pub step : (said : Said) (o : Organisation) (files : Holding) (q : Place)
    → KeepsOrHas (place_said said) (content_said said) q (content_in o files q) (content_in (with_said said o) (files_with_said said files) q)
step (Count n) o files q = step-Count n o files q
step (Object key object) o files q = step-Object key object o files q
step (User name) o files q = step-User name o files q
step (Group name group) o files q = step-Group name group o files q
step (Container name) o files q = step-Container name o files q
step (AVersion name version manifest) o files q = step-Version name version manifest o files q
step (Artifact name id manifest) o files q = step-Artifact name id manifest o files q
step (Revision policy id lock) o files q = step-Revision policy id lock o files q
step (PolicyGroup name policies) o files q = step-PolicyGroup name policies o files q
step (AList key acl) o files q = step-AList key acl o files q
step (Sandbox id checksums) o files q = step-Sandbox id checksums o files q
step (File bytes committed) o files q = step-File bytes committed o files q

-- ---- what was laid is there

-- at a key
at_itself : {K V : Type 0} {R : K → K → Ordering} (total : IsTotalOrder R) (to : V → Content) (m : finite.FinMap R V) (key : K) (v : V) → option_map to (finite.get (finite.insert m key v) key) ≡ Some (to v)
at_itself total to m key v = ap (option_map to) (get-insert_same total m key v)

-- under a name at a key
on_shelf : {K : Type 0} {R : K → K → Ordering} (total : IsTotalOrder R) (shelves : Store R Doc) (name : List ℕ) (key : K) (v : Doc) → option_map document (value_at (put name key v shelves) name key) ≡ Some (document v)
on_shelf {R = R} total shelves name key v =
    ap (λ s. option_map document (finite.get s key)) (shelf_of-insert shelves name (finite.insert (shelf_of shelves name) key v))
    ∙ at_itself total document (shelf_of shelves name) key v

-- a container's name is that of one
container_at : (name : List ℕ) (found : Option Starting) → cond (is_some found) (Some (place.container name)) None ≡ Some (place.container name) → option_map (λ _. name_alone) found ≡ Some name_alone
container_at name None is = absurd (none-some _ is)
container_at name (Some one) is = refl

pub there : (said : Said) (o : Organisation) (files : Holding) → IsPlace (place_said said) → content_in (with_said said o) (files_with_said said files) (place_said said) ≡ Some (content_said said)
there (Count n) o files named = refl
there (Object key object) o files named = at_itself key_cmp_total document o.objects key object
there (User name) o files named = ap (λ b. cond b (Some name_alone) None) (set.contains-insert nat_list_cmp_total o.membership.users name name ∙ ap (λ b. b || set.contains o.membership.users name) (same_name name))
there (Group name group) o files named = at_itself nat_list_cmp_total members o.membership.groups name group.members
there (Container name) o files named = container_at name (container_named name) named
there (AVersion name version manifest) o files named = on_shelf versions_total o.shelved.cookbooks name version manifest
there (Artifact name id manifest) o files named = on_shelf nat_list_cmp_total o.shelved.artifacts name id manifest
there (Revision policy id lock) o files named = on_shelf nat_list_cmp_total o.shelved.policies policy id lock
there (PolicyGroup name policies) o files named = at_itself nat_list_cmp_total assigned o.shelved.groups name policies
there (AList key acl) o files named = at_itself key_cmp_total list o.lists key acl
there (Sandbox id checksums) o files named = at_itself nat_list_cmp_total sums files.sandboxes id checksums
there (File bytes committed) o files named = at_itself nat_list_cmp_total stored files.files (checksum_of bytes) (record { file = bytes; committed = committed })
