-- Moves that keep the conditions of an organisation's state.
use Rattle.std.proofs.Common.{◌≡◌, ℕ, List, [], ◌∷◌, ◌++◌, map, Bool, true, false, cond, not, ◌&&◌, ◌||◌, Option, Some, None, is_some, unwrap_or, codes, refl, sym, ap, subst, ◌∙◌}
use Rattle.std.specs.FinMap as finite
use Rattle.std.specs.FinSet as set
use Rattle.std.specs.Ordering.{eq_by_cmp}
use Rattle.membership.specs.declared.member_kind.MemberKind.{MemberKind}
use Rattle.membership.specs.declared.member_kind.MemberKind.TheVariants as member
use Rattle.membership.specs.Changes.{with_client}
use Rattle.membership.specs.Members.{Members, Membership, no_members}
use Rattle.membership.specs.StartingGroups.{is_starting_group}
use Rattle.membership.specs.Actors as membership
use Rattle.access_lists.specs.declared.acl.Acl.{Acl}
use Rattle.access_lists.specs.Acls.{with_creator}
use Rattle.access_lists.specs.declared.starting.Container.{Container}
use Rattle.access_lists.specs.Starting.{name_of, starting_list}
use Rattle.doc_tree.specs.Doc.{Doc}
use Rattle.doc_tree.specs.Name.{is_name}
use Rattle.doc_tree.specs.declared.kind.Kind.TheVariants as kinds
use Rattle.object_store.specs.Items.{item_name, ids_in}
use Rattle.object_store.specs.Objects.{Objects, key, key_cmp}
use Rattle.object_store.specs.declared.key.Key.{Key}
use Rattle.org_core.proofs.ListedLemmas.{NamesKnown, has_own_list, known_grows, left-at, list_known, objects_alone, put-at, put_list, put_with_list, take_with_list, with_known}
use Rattle.org_core.proofs.MembershipLemmas.{comes_client, contains-left, contains-put}
use Rattle.org_core.proofs.AccessConditionsLemmas as lemmas
use Rattle.org_core.proofs.ObjectConditionsLemmas.{items_taken_out, keeps_bag_removal, keeps_first, keeps_put, keeps_take_out, nobody_taken_out, same_keys, without_items}
use Rattle.org_core.proofs.StartingConditionsLemmas.{key_named, started, starting_known, starts, starts_without_clients}
use Rattle.org_core.specs.AccessConditions.{AccessConditions, HasItsClients, has_member}
use Rattle.org_core.specs.Conditions.{MeetsConditions}
use Rattle.org_shelves.proofs.KeepingLemmas.{nothing_meets}
use Rattle.org_core.specs.Contexts.{Context, in_state}
use Rattle.org_core.specs.Creating.{container_list, created_list}
use Rattle.org_core.specs.Moves.{after_moves, joins, with_objects}
use Rattle.org_core.specs.Needs.{if_named}
use Rattle.org_core.specs.ObjectConditions.{has, IsStored}
use Rattle.org_core.specs.States.{State, Organisation, objects_of}
use Rattle.org_core.specs.declared.moves.Move.TheVariants.{Put, TakeOut, PutList, TakeList, AddUser, AddClient, RemoveUser, RemoveClient, PutGroup, RemoveGroup}

-- ---- the list of what is created

found_known : (o : Organisation) (k : Key) (default : Acl) (found : Option Acl) → finite.get o.lists k ≡ found → AccessConditions o → NamesKnown o.membership default → NamesKnown o.membership (unwrap_or found default)
found_known o k default None is meets known = known
found_known o k default (Some list) is meets known = list_known o k list meets is

container_known : (container : Container) (o : Organisation) → AccessConditions o → NamesKnown o.membership (container_list container (Some o))
container_known container o meets =
    found_known o (key kinds.Container (name_of container)) (starting_list container) (finite.get o.lists (key kinds.Container (name_of container))) refl meets
    (starting_known o.membership container meets.starting)

creator_known : (m : Membership) (caller : Option (List ℕ)) (list : Acl) → NamesKnown m list → if_named (membership.is_actor m) caller ≡ true → NamesKnown m (with_creator caller list)
creator_known m None list known is = cc
creator_known m (Some name) list known is = with_known m name list known is

-- everyone whom the list of a new object names is there
pub created_known : (container : Container) (context : Context) (o : Organisation) → AccessConditions o → if_named (membership.is_actor o.membership) context.caller ≡ true
    → NamesKnown o.membership (created_list container (in_state (Some o) context))
created_known container context o meets is = creator_known o.membership context.caller (container_list container (Some o)) (container_known container o meets) is

-- ---- clients

other_put : (objects : Objects) (k : Key) (object : Doc) (name : List ℕ) → eq_by_cmp key_cmp (key kinds.Client name) k ≡ false → has (finite.insert objects k object) kinds.Client name ≡ has objects kinds.Client name
other_put objects k object name other = ap is_some (put-at objects k object (key kinds.Client name)) ∙ ap (λ b. is_some (cond b (Some object) (finite.get objects (key kinds.Client name)))) other

other_left : (objects : Objects) (k : Key) (name : List ℕ) → eq_by_cmp key_cmp (key kinds.Client name) k ≡ false → has (finite.remove objects k) kinds.Client name ≡ has objects kinds.Client name
other_left objects k name other = ap is_some (left-at objects k (key kinds.Client name)) ∙ ap (λ b. is_some (cond b None (finite.get objects (key kinds.Client name)))) other

put_or : (b : Bool) (object : Doc) (found : Option Doc) → is_some (cond b (Some object) found) ≡ (b || is_some found)
put_or true object found = refl
put_or false object found = refl

left_and : (b : Bool) (found : Option Doc) → is_some (cond b None found) ≡ (not b && is_some found)
left_and true found = refl
left_and false found = refl

client_put : (o : Organisation) (name : List ℕ) (object : Doc) (q : List ℕ) → HasItsClients o
    → membership.has (with_client name o.membership) member.Client q ≡ has (finite.insert o.objects (key kinds.Client name) object) kinds.Client q
client_put o name object q clients =
    contains-put o.membership.clients name q
    ∙ (λ i. sym (key_named kinds.Client q name _ _ refl refl) i || clients q i)
    ∙ sym (put_or (eq_by_cmp key_cmp (key kinds.Client q) (key kinds.Client name)) object (finite.get o.objects (key kinds.Client q)))
    ∙ sym (ap is_some (put-at o.objects (key kinds.Client name) object (key kinds.Client q)))

client_left : (o : Organisation) (name : List ℕ) (q : List ℕ) → HasItsClients o
    → set.contains (set.remove o.membership.clients name) q ≡ has (finite.remove o.objects (key kinds.Client name)) kinds.Client q
client_left o name q clients =
    contains-left o.membership.clients name q
    ∙ (λ i. not (sym (key_named kinds.Client q name _ _ refl refl) i) && clients q i)
    ∙ sym (left_and (eq_by_cmp key_cmp (key kinds.Client q) (key kinds.Client name)) (finite.get o.objects (key kinds.Client q)))
    ∙ sym (ap is_some (left-at o.objects (key kinds.Client name) (key kinds.Client q)))

-- ---- an object comes with its list

-- the key is of a kind whose objects have lists of their own, and no client's
pub record IsListedKey (k : Key) : Type 0 where
  pub own : has_own_list k.kind ≡ true
  pub no_client : (name : List ℕ) → eq_by_cmp key_cmp (key kinds.Client name) k ≡ false
  pub no_item : (name : List ℕ) → key kinds.Item name ≡ k → ⊥

pub create_keeps : (o : Organisation) (k : Key) (object : Doc) (list : Acl) → MeetsConditions (Some o) → IsListedKey k → IsStored k.kind k.name object → NamesKnown o.membership list
    → MeetsConditions (after_moves (Put k object ∷ PutList k list ∷ []) (Some o))
create_keeps o k object list (objects, (access, clients)) listed this known = (
  keeps_put o.objects k object objects this (λ bag id named same. absurd (listed.no_item (item_name bag id) same)),
  (
    put_with_list o k object list access listed.own known,
    (λ name. clients.0 name ∙ sym (other_put o.objects k object name (listed.no_client name)), clients.1),
  ),
)

no_client_item : (name item : List ℕ) → key kinds.Item item ≡ key kinds.Client name → ⊥
no_client_item name item same = cc (ap (λ (k : Key). k.kind) same)

-- a client comes with its list, and joins a group
pub create_client_keeps : (o : Organisation) (group name : List ℕ) (object : Doc) (list : Acl) → MeetsConditions (Some o) → IsStored kinds.Client name object → is_name name ≡ true
    → membership.is_actor o.membership name ≡ false → NamesKnown o.membership list
    → MeetsConditions (after_moves (AddClient (record { name = name; group = group }) ∷ Put (key kinds.Client name) object ∷ PutList (key kinds.Client name) list ∷ []) (Some o))
create_client_keeps o group name object list (objects, (access, clients)) this form free known =
    let new : Membership = joins group member.Client name (with_client name o.membership) in (
      keeps_put o.objects (key kinds.Client name) object objects this (λ bag id named same. absurd (no_client_item name (item_name bag id) same)),
      (
        put_with_list _ (key kinds.Client name) object list (lemmas.client_comes o group name access free form) refl
            (known_grows member.Client name o.membership new list (comes_client group name o.membership) known),
        (λ q. client_put o name object q clients.0, clients.1),
      ),
    )

-- ---- an object takes the place of one

same_there : (objects : Objects) (k : Key) (object : Doc) (q : Key) (b : Bool) → is_some (finite.get objects k) ≡ true → eq_by_cmp key_cmp q k ≡ b
    → is_some (cond b (Some object) (finite.get objects q)) ≡ is_some (finite.get objects q)
same_there objects k object q true there same = sym there ∙ ap (λ (x : Key). is_some (finite.get objects x)) (sym (same_keys q k same))
same_there objects k object q false there other = refl

put_same : (objects : Objects) (k : Key) (object : Doc) (q : Key) → is_some (finite.get objects k) ≡ true → is_some (finite.get (finite.insert objects k object) q) ≡ is_some (finite.get objects q)
put_same objects k object q there = ap is_some (put-at objects k object q) ∙ same_there objects k object q (eq_by_cmp key_cmp q k) there refl

pub replace_keeps : (o : Organisation) (k : Key) (object : Doc) → MeetsConditions (Some o) → is_some (finite.get o.objects k) ≡ true → IsStored k.kind k.name object
    → ((bag id : List ℕ) → is_name bag ≡ true → key kinds.Item (item_name bag id) ≡ k → has o.objects kinds.Bag bag ≡ true)
    → MeetsConditions (after_moves (Put k object ∷ []) (Some o))
replace_keeps o k object (objects, (access, clients)) there this own = (
  keeps_put o.objects k object objects this own,
  (
    objects_alone o (finite.insert o.objects k object) access (λ q listed. put_same o.objects k object q there),
    (λ name. clients.0 name ∙ sym (put_same o.objects k object (key kinds.Client name) there), clients.1),
  ),
)

-- an item's key is that of no object with a list
other_than_item : (q : Key) (name : List ℕ) → has_own_list q.kind ≡ true → eq_by_cmp key_cmp q (key kinds.Item name) ≡ false
other_than_item q name own =
    elim (eq_by_cmp key_cmp q (key kinds.Item name)) as (λ b. eq_by_cmp key_cmp q (key kinds.Item name) ≡ b → b ≡ false) [
      | true ↦ λ same. cc (subst (λ (k : Key). has_own_list k.kind ≡ true) (same_keys q (key kinds.Item name) same) own)
      | false ↦ λ other. refl
    ] refl

-- an item is put in whose bag is there
pub put_item_keeps : (o : Organisation) (name : List ℕ) (item : Doc) → MeetsConditions (Some o) → IsStored kinds.Item name item
    → ((bag id : List ℕ) → is_name bag ≡ true → key kinds.Item (item_name bag id) ≡ key kinds.Item name → has o.objects kinds.Bag bag ≡ true)
    → MeetsConditions (after_moves (Put (key kinds.Item name) item ∷ []) (Some o))
put_item_keeps o name item (objects, (access, clients)) this own = (
  keeps_put o.objects (key kinds.Item name) item objects this own,
  (
    objects_alone o (finite.insert o.objects (key kinds.Item name) item) access
        (λ q listed. ap is_some (put-at o.objects (key kinds.Item name) item q) ∙ ap (λ b. is_some (cond b (Some item) (finite.get o.objects q))) (other_than_item q name listed)),
    (λ client. clients.0 client ∙ sym (other_put o.objects (key kinds.Item name) item client refl), clients.1),
  ),
)

-- ---- an object goes with its list

pub remove_keeps : (o : Organisation) (k : Key) → MeetsConditions (Some o) → IsListedKey k → ((bag : List ℕ) → eq_by_cmp key_cmp (key kinds.Bag bag) k ≡ false)
    → eq_by_cmp key_cmp (key kinds.Environment (codes "_default")) k ≡ false → MeetsConditions (after_moves (TakeOut k ∷ TakeList k ∷ []) (Some o))
remove_keeps o k (objects, (access, clients)) listed no_bag no_default = (
  keeps_take_out o.objects k objects no_bag no_default,
  (
    take_with_list o k access listed.own,
    (λ name. clients.0 name ∙ sym (other_left o.objects k name (listed.no_client name)), clients.1),
  ),
)

-- a client goes with its list, out of every group and every list
pub remove_client_keeps : (o : Organisation) (name : List ℕ) → MeetsConditions (Some o)
    → MeetsConditions (after_moves (TakeOut (key kinds.Client name) ∷ TakeList (key kinds.Client name) ∷ RemoveClient name ∷ []) (Some o))
remove_client_keeps o name (objects, (access, clients)) = (
  keeps_take_out o.objects (key kinds.Client name) objects (λ bag. refl) refl,
  (
    lemmas.client_goes _ name (take_with_list o (key kinds.Client name) access refl),
    (λ q. client_left o name q clients.0, clients.1),
  ),
)

pub remove_item_keeps : (o : Organisation) (name : List ℕ) → MeetsConditions (Some o) → MeetsConditions (after_moves (TakeOut (key kinds.Item name) ∷ []) (Some o))
remove_item_keeps o name (objects, (access, clients)) = (
  keeps_take_out o.objects (key kinds.Item name) objects (λ bag. refl) refl,
  (
    objects_alone o (finite.remove o.objects (key kinds.Item name)) access
        (λ q listed. ap is_some (left-at o.objects (key kinds.Item name) q) ∙ ap (λ b. is_some (cond b None (finite.get o.objects q))) (other_than_item q name listed)),
    (λ client. clients.0 client ∙ sym (other_left o.objects (key kinds.Item name) client refl), clients.1),
  ),
)

-- ---- a bag goes with its items

same_without : (bag : List ℕ) (ids : List (List ℕ)) (objects : Objects) (q : Key) → has_own_list q.kind ≡ true → is_some (finite.get (without_items bag ids objects) q) ≡ is_some (finite.get objects q)
same_without bag [] objects q own = refl
same_without bag (id ∷ ids) objects q own =
    same_without bag ids (finite.remove objects (key kinds.Item (item_name bag id))) q own
    ∙ ap is_some (left-at objects (key kinds.Item (item_name bag id)) q)
    ∙ ap (λ b. is_some (cond b None (finite.get objects q))) (other_than_item q (item_name bag id) own)

pub remove_bag_keeps : (state : State) (bag : List ℕ) → MeetsConditions state
    → MeetsConditions (after_moves (map (λ (id : List ℕ). TakeOut (key kinds.Item (item_name bag id))) (ids_in bag (objects_of state)) ++ TakeOut (key kinds.Bag bag) ∷ TakeList (key kinds.Bag bag) ∷ []) state)
remove_bag_keeps None bag meets = subst MeetsConditions (sym (nobody_taken_out bag (ids_in bag finite.empty))) tt
remove_bag_keeps (Some o) bag (objects, (access, clients)) =
    let left : Objects = without_items bag (ids_in bag o.objects) o.objects in
    subst MeetsConditions (sym (items_taken_out bag (ids_in bag o.objects) (TakeOut (key kinds.Bag bag) ∷ TakeList (key kinds.Bag bag) ∷ []) o)) (
      keeps_bag_removal bag o.objects objects,
      (
        take_with_list (with_objects left o) (key kinds.Bag bag) (objects_alone o left access (λ q own. same_without bag (ids_in bag o.objects) o.objects q own)) refl,
        (λ name. clients.0 name ∙ sym (other_left left (key kinds.Bag bag) name refl ∙ same_without bag (ids_in bag o.objects) o.objects (key kinds.Client name) refl), clients.1),
      ),
    )

-- ---- lists, users and groups

pub put_list_keeps : (o : Organisation) (k : Key) (list : Acl) → MeetsConditions (Some o) → is_some (finite.get o.lists k) ≡ true → NamesKnown o.membership list
    → MeetsConditions (after_moves (PutList k list ∷ []) (Some o))
put_list_keeps o k list (objects, (access, clients)) there known = (objects, (put_list o k list access there known, clients))

pub create_user_keeps : (o : Organisation) (group name : List ℕ) → MeetsConditions (Some o) → membership.is_actor o.membership name ≡ false → is_name name ≡ true
    → MeetsConditions (after_moves (AddUser (record { name = name; group = group }) ∷ []) (Some o))
create_user_keeps o group name (objects, (access, clients)) free form = (objects, (lemmas.user_comes o group name access free form, clients))

pub remove_user_keeps : (o : Organisation) (name : List ℕ) → MeetsConditions (Some o) → MeetsConditions (after_moves (RemoveUser name ∷ []) (Some o))
remove_user_keeps o name (objects, (access, clients)) = (objects, (lemmas.user_goes o name access, clients))

pub create_group_keeps : (o : Organisation) (name : List ℕ) (list : Acl) → MeetsConditions (Some o) → NamesKnown o.membership list → is_name name ≡ true
    → MeetsConditions (after_moves (PutGroup name no_members ∷ PutList (key kinds.Group name) list ∷ []) (Some o))
create_group_keeps o name list (objects, (access, clients)) known form = (objects, (lemmas.group_comes o name list access known form, clients))

pub replace_group_keeps : (o : Organisation) (name : List ℕ) (members : Members) → MeetsConditions (Some o) → membership.has o.membership member.Group name ≡ true
    → ((k : MemberKind) (q : List ℕ) → has_member k q members ≡ true → membership.has o.membership k q ≡ true) → MeetsConditions (after_moves (PutGroup name members ∷ []) (Some o))
replace_group_keeps o name members (objects, (access, clients)) there known = (objects, (lemmas.group_changes o name members access there known, clients))

pub remove_group_keeps : (o : Organisation) (name : List ℕ) → MeetsConditions (Some o) → is_starting_group name ≡ false
    → MeetsConditions (after_moves (TakeList (key kinds.Group name) ∷ RemoveGroup name ∷ []) (Some o))
remove_group_keeps o name (objects, (access, clients)) free = (objects, (lemmas.group_goes o name access free, clients))

-- ---- a new organisation

pub start_keeps : (default : Doc) → IsStored kinds.Environment (codes "_default") default → MeetsConditions (Some (started default))
start_keeps default this = (keeps_first default this, (starts default, (starts_without_clients default, nothing_meets)))
