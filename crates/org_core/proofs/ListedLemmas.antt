-- Which objects have access lists, and lists that name nobody who is not there.
use Rattle.std.proofs.Common.{◌≡◌, ℕ, List, [], ◌∷◌, ◌++◌, Bool, true, false, cond, not, ◌⊎◌, inl, inr, Option, Some, None, is_some, bytes_eq, refl, sym, ap, subst, ◌∙◌}
use Rattle.std.proofs.lemmas.Bool.{or_left, or_right}
use Rattle.std.proofs.lemmas.Option.{same_Some}
use Rattle.std.specs.FinMap as finite
use Rattle.std.specs.Ordering.{eq_by_cmp}
use Rattle.membership.specs.declared.member_kind.MemberKind.{MemberKind}
use Rattle.membership.specs.declared.member_kind.MemberKind.TheVariants as member
use Rattle.membership.specs.Members.{Membership}
use Rattle.membership.specs.Actors as membership
use Rattle.membership.specs.TextSets.{lists, without}
use Rattle.membership.proofs.TextSetLemmas.{lists-in_order}
use Rattle.access_lists.specs.declared.acl.Acl.{Acl}
use Rattle.access_lists.specs.declared.acl.Entry.{Entry}
use Rattle.access_lists.specs.declared.perm.Perm.{Perm}
use Rattle.access_lists.specs.declared.perm.Perm.TheVariants as permission
use Rattle.access_lists.specs.Acls.{entry_of, each_entry, with_actor}
use Rattle.doc_tree.specs.Doc.{Doc}
use Rattle.doc_tree.specs.declared.kind.Kind.{Kind}
use Rattle.doc_tree.specs.declared.kind.Kind.TheVariants as kinds
use Rattle.object_store.specs.Keys.{key_cmp_total}
use Rattle.object_store.specs.Objects.{Objects, Lists, key_cmp}
use Rattle.object_store.specs.declared.key.Key.{Key}
use Rattle.org_core.proofs.ObjectConditionsLemmas.{same_keys, ties_itself}
use Rattle.org_core.specs.AccessConditions.{has_listed, has_shelved, AccessConditions}
use Rattle.org_core.specs.Moves.{with_objects, with_lists}
use Rattle.org_core.specs.ObjectConditions.{has}
use Rattle.org_core.specs.States.{Organisation}
use Rattle.org_core.proofs.MembershipLemmas.{Comes, either, other_name, same_name}
use Rattle.org_core.proofs.ActorsLemmas.{actor_grows}

-- ---- entries of lists

pub entry_each : (change : Entry → Entry) (list : Acl) (p : Perm) → entry_of p (each_entry change list) ≡ change (entry_of p list)
entry_each change list permission.Create = refl
entry_each change list permission.Read = refl
entry_each change list permission.Update = refl
entry_each change list permission.Delete = refl
entry_each change list permission.Grant = refl

lists_more : (texts : List (List ℕ)) (last q : List ℕ) → lists (texts ++ last ∷ []) q ≡ true → (lists texts q ≡ true) ⊎ (q ≡ last)
lists_more [] last q is = elim (either (bytes_eq q last) false is) [ inl same ↦ inr (same_name q last same) | inr none ↦ cc none ]
lists_more (text ∷ texts) last q is =
    elim (either (bytes_eq q text) (lists (texts ++ last ∷ []) q) is) [
      | inl first ↦ inl (or_left (bytes_eq q text) (lists texts q) first)
      | inr rest ↦ elim (lists_more texts last q rest) [ inl among ↦ inl (or_right (bytes_eq q text) (lists texts q) among) | inr same ↦ inr same ]
    ]

-- an actor of an entry with one more was one, or is that one
actor_more : (entry : Entry) (name q : List ℕ) → lists (with_actor name entry).actors q ≡ true → (lists entry.actors q ≡ true) ⊎ (q ≡ name)
actor_more entry name q is = lists_more entry.actors name q (sym (lists-in_order (entry.actors ++ name ∷ []) q) ∙ is)

lists_kept : (text other q : List ℕ) (rest : List (List ℕ)) (b : Bool) → bytes_eq text other ≡ b → lists (cond (not b) (other ∷ rest) rest) q ≡ true
    → (((bytes_eq text other ≡ false) × (bytes_eq q other ≡ true)) ⊎ (lists rest q ≡ true))
lists_kept text other q rest true same is = inr is
lists_kept text other q rest false apart is = elim (either (bytes_eq q other) (lists rest q) is) [ inl first ↦ inl (apart, first) | inr more ↦ inr more ]

-- a text that is left was there, and isn't the one that was taken out
pub lists_without : (text : List ℕ) (texts : List (List ℕ)) (q : List ℕ) → lists (without text texts) q ≡ true → (lists texts q ≡ true) × (q ≡ text → ⊥)
lists_without text [] q is = cc
lists_without text (other ∷ texts) q is =
    elim (lists_kept text other q (without text texts) (bytes_eq text other) refl is) [
      | inl (apart, first) ↦ (or_left (bytes_eq q other) (lists texts q) first, λ same. other_name text other apart (sym same ∙ same_name q other first))
      | inr rest ↦ let was = lists_without text texts q rest in (or_right (bytes_eq q other) (lists texts q) was.0, was.1)
    ]

-- ---- maps by keys

module _ {X : Type 0} where
  pub put-at : (m : finite.FinMap key_cmp X) (k : Key) (x : X) (q : Key) → finite.get (finite.insert m k x) q ≡ cond (eq_by_cmp key_cmp q k) (Some x) (finite.get m q)
  put-at m k x q = finite.get-insert key_cmp_total m k x q

  pub left-at : (m : finite.FinMap key_cmp X) (k q : Key) → finite.get (finite.remove m k) q ≡ cond (eq_by_cmp key_cmp q k) None (finite.get m q)
  left-at m k q = finite.get-remove key_cmp_total m k q

  put_or_was : (m : finite.FinMap key_cmp X) (k : Key) (x : X) (q : Key) (found : X) (b : Bool) → eq_by_cmp key_cmp q k ≡ b → cond b (Some x) (finite.get m q) ≡ Some found
      → (x ≡ found) ⊎ (finite.get m q ≡ Some found)
  put_or_was m k x q found true same is = inl (same_Some x found is)
  put_or_was m k x q found false other is = inr is

  -- what is found is what was put in, or was there
  pub found_in : (m : finite.FinMap key_cmp X) (k : Key) (x : X) (q : Key) (found : X) → finite.get (finite.insert m k x) q ≡ Some found → (x ≡ found) ⊎ (finite.get m q ≡ Some found)
  found_in m k x q found is = put_or_was m k x q found (eq_by_cmp key_cmp q k) refl (sym (put-at m k x q) ∙ is)

  was_there : (b : Bool) (found : Option X) (x : X) → cond b None found ≡ Some x → found ≡ Some x
  was_there true found x is = cc
  was_there false found x is = is

  -- what is left was there
  pub found_still : (m : finite.FinMap key_cmp X) (k q : Key) (found : X) → finite.get (finite.remove m k) q ≡ Some found → finite.get m q ≡ Some found
  found_still m k q found is = was_there (eq_by_cmp key_cmp q k) (finite.get m q) found (sym (left-at m k q) ∙ is)

-- ---- which objects have lists

-- the objects of this kind have lists, and are kept as objects
abbrev pub has_own_list : Kind → Bool
has_own_list kinds.Org = false
has_own_list kinds.Node = true
has_own_list kinds.Role = true
has_own_list kinds.Environment = true
has_own_list kinds.Bag = true
has_own_list kinds.Client = true
has_own_list kinds.User = false
has_own_list kinds.Group = false
has_own_list kinds.Container = false
has_own_list kinds.Item = false
has_own_list kinds.Cookbook = false
has_own_list kinds.Artifact = false
has_own_list kinds.Policy = false
has_own_list kinds.PolicyGroup = false
has_own_list kinds.Acl = false
has_own_list kinds.Sandbox = false
has_own_list kinds.File = false

-- where two organisations have the same objects, groups and things on shelves of a name, the same is listed
pub same_listed : (o p : Organisation) (kind : Kind) (name : List ℕ) → (has_own_list kind ≡ true → has p.objects kind name ≡ has o.objects kind name)
    → (kind ≡ kinds.Group → membership.has p.membership member.Group name ≡ membership.has o.membership member.Group name) → has_shelved p.shelved kind name ≡ has_shelved o.shelved kind name
    → has_listed p kind name ≡ has_listed o kind name
same_listed o p kinds.Org name objects groups shelved = refl
same_listed o p kinds.Node name objects groups shelved = objects refl
same_listed o p kinds.Role name objects groups shelved = objects refl
same_listed o p kinds.Environment name objects groups shelved = objects refl
same_listed o p kinds.Bag name objects groups shelved = objects refl
same_listed o p kinds.Client name objects groups shelved = objects refl
same_listed o p kinds.User name objects groups shelved = refl
same_listed o p kinds.Group name objects groups shelved = groups refl
same_listed o p kinds.Container name objects groups shelved = refl
same_listed o p kinds.Item name objects groups shelved = refl
same_listed o p kinds.Cookbook name objects groups shelved = shelved
same_listed o p kinds.Artifact name objects groups shelved = shelved
same_listed o p kinds.Policy name objects groups shelved = shelved
same_listed o p kinds.PolicyGroup name objects groups shelved = shelved
same_listed o p kinds.Acl name objects groups shelved = refl
same_listed o p kinds.Sandbox name objects groups shelved = refl
same_listed o p kinds.File name objects groups shelved = refl

-- an object that has a list of its own is listed where it is there
own_listed : (o : Organisation) (kind : Kind) (name : List ℕ) → has_own_list kind ≡ true → has_listed o kind name ≡ has o.objects kind name
own_listed o kinds.Org name own = cc
own_listed o kinds.Node name own = refl
own_listed o kinds.Role name own = refl
own_listed o kinds.Environment name own = refl
own_listed o kinds.Bag name own = refl
own_listed o kinds.Client name own = refl
own_listed o kinds.User name own = cc
own_listed o kinds.Group name own = cc
own_listed o kinds.Container name own = cc
own_listed o kinds.Item name own = cc
own_listed o kinds.Cookbook name own = cc
own_listed o kinds.Artifact name own = cc
own_listed o kinds.Policy name own = cc
own_listed o kinds.PolicyGroup name own = cc
own_listed o kinds.Acl name own = cc
own_listed o kinds.Sandbox name own = cc
own_listed o kinds.File name own = cc

-- ---- lists without strangers

-- everyone whom an access list names is there
pub record NamesKnown (m : Membership) (list : Acl) : Type 0 where
  pub actors : (p : Perm) (name : List ℕ) → lists (entry_of p list).actors name ≡ true → membership.is_actor m name ≡ true
  pub groups : (p : Perm) (name : List ℕ) → lists (entry_of p list).groups name ≡ true → membership.has m member.Group name ≡ true

-- a list of an organisation that meets the conditions
pub list_known : (o : Organisation) (k : Key) (list : Acl) → AccessConditions o → finite.get o.lists k ≡ Some list → NamesKnown o.membership list
list_known o k list meets found = record { actors = λ p name is. meets.actors k list p name found is; groups = λ p name is. meets.groups k list p name found is }

-- a list with one more actor, who is known
pub with_known : (m : Membership) (name : List ℕ) (list : Acl) → NamesKnown m list → membership.is_actor m name ≡ true → NamesKnown m (each_entry (with_actor name) list)
with_known m name list known is = record {
  actors = λ p q listed. elim (actor_more (entry_of p list) name q (subst (λ (e : Entry). lists e.actors q ≡ true) (entry_each (with_actor name) list p) listed)) [
    | inl was ↦ known.actors p q was
    | inr same ↦ subst (λ (n : List ℕ). membership.is_actor m n ≡ true) (sym same) is
  ];
  groups = λ p q listed. known.groups p q (subst (λ (e : Entry). lists e.groups q ≡ true) (entry_each (with_actor name) list p) listed);
}

pub known_grows : (kind : MemberKind) (name : List ℕ) (m new : Membership) (list : Acl) → Comes kind name m new → NamesKnown m list → NamesKnown new list
known_grows kind name m new list comes known = record {
  actors = λ p q listed. actor_grows kind name m new q comes (known.actors p q listed);
  groups = λ p q listed. comes.grows member.Group q (known.groups p q listed);
}

-- ---- an object is put in or taken out, with its list

put_listed : (o : Organisation) (k : Key) (object : Doc) (list : Acl) (q : Key) (b : Bool) → AccessConditions o → has_own_list k.kind ≡ true → eq_by_cmp key_cmp q k ≡ b
    → is_some (cond b (Some list) (finite.get o.lists q)) ≡ has_listed (with_lists (finite.insert o.lists k list) (with_objects (finite.insert o.objects k object) o)) q.kind q.name
put_listed o k object list q true meets own same =
    let after : Organisation = with_lists (finite.insert o.lists k list) (with_objects (finite.insert o.objects k object) o) in
    let there : has after.objects k.kind k.name ≡ true = ap is_some (put-at o.objects k object k) ∙ ap (λ b. is_some (cond b (Some object) (finite.get o.objects k))) (ties_itself k) in
    subst (λ (x : Key). true ≡ has_listed after x.kind x.name) (sym (same_keys q k same)) (sym (own_listed after k.kind k.name own ∙ there))
put_listed o k object list q false meets own other =
    let after : Organisation = with_lists (finite.insert o.lists k list) (with_objects (finite.insert o.objects k object) o) in
    meets.listed q
    ∙ sym (same_listed o after q.kind q.name
    (λ has_list. ap is_some (put-at o.objects k object q) ∙ ap (λ b. is_some (cond b (Some object) (finite.get o.objects q))) other)
    (λ group. refl) refl)

-- an object comes with its list
pub put_with_list : (o : Organisation) (k : Key) (object : Doc) (list : Acl) → AccessConditions o → has_own_list k.kind ≡ true → NamesKnown o.membership list
    → AccessConditions (with_lists (finite.insert o.lists k list) (with_objects (finite.insert o.objects k object) o))
put_with_list o k object list meets own known = record {
  listed = λ q. ap is_some (put-at o.lists k list q) ∙ put_listed o k object list q (eq_by_cmp key_cmp q k) meets own refl;
  actors = λ q found p name is listed. elim (found_in o.lists k list q found is) [
    | inl same ↦ known.actors p name (subst (λ (x : Acl). lists (entry_of p x).actors name ≡ true) (sym same) listed)
    | inr was ↦ meets.actors q found p name was listed
  ];
  groups = λ q found p name is listed. elim (found_in o.lists k list q found is) [
    | inl same ↦ known.groups p name (subst (λ (x : Acl). lists (entry_of p x).groups name ≡ true) (sym same) listed)
    | inr was ↦ meets.groups q found p name was listed
  ];
  members = meets.members;
  starting = meets.starting;
  apart = meets.apart;
  named = meets.named;
}

left_listed : (o : Organisation) (k : Key) (q : Key) (b : Bool) → AccessConditions o → has_own_list k.kind ≡ true → eq_by_cmp key_cmp q k ≡ b
    → is_some (cond b None (finite.get o.lists q)) ≡ has_listed (with_lists (finite.remove o.lists k) (with_objects (finite.remove o.objects k) o)) q.kind q.name
left_listed o k q true meets own same =
    let after : Organisation = with_lists (finite.remove o.lists k) (with_objects (finite.remove o.objects k) o) in
    let gone : has after.objects k.kind k.name ≡ false = ap is_some (left-at o.objects k k) ∙ ap (λ b. is_some (cond b None (finite.get o.objects k))) (ties_itself k) in
    subst (λ (x : Key). false ≡ has_listed after x.kind x.name) (sym (same_keys q k same)) (sym (own_listed after k.kind k.name own ∙ gone))
left_listed o k q false meets own other =
    let after : Organisation = with_lists (finite.remove o.lists k) (with_objects (finite.remove o.objects k) o) in
    meets.listed q
    ∙ sym (same_listed o after q.kind q.name
    (λ has_list. ap is_some (left-at o.objects k q) ∙ ap (λ b. is_some (cond b None (finite.get o.objects q))) other)
    (λ group. refl) refl)

-- an object goes with its list
pub take_with_list : (o : Organisation) (k : Key) → AccessConditions o → has_own_list k.kind ≡ true
    → AccessConditions (with_lists (finite.remove o.lists k) (with_objects (finite.remove o.objects k) o))
take_with_list o k meets own = record {
  listed = λ q. ap is_some (left-at o.lists k q) ∙ left_listed o k q (eq_by_cmp key_cmp q k) meets own refl;
  actors = λ q found p name is listed. meets.actors q found p name (found_still o.lists k q found is) listed;
  groups = λ q found p name is listed. meets.groups q found p name (found_still o.lists k q found is) listed;
  members = meets.members;
  starting = meets.starting;
  apart = meets.apart;
  named = meets.named;
}

-- other objects, of which those with lists of their own are as they were
pub objects_alone : (o : Organisation) (objects : Objects) → AccessConditions o → ((k : Key) → has_own_list k.kind ≡ true → is_some (finite.get objects k) ≡ is_some (finite.get o.objects k))
    → AccessConditions (with_objects objects o)
objects_alone o objects meets same = record {
  listed = λ q. meets.listed q ∙ sym (same_listed o (with_objects objects o) q.kind q.name (λ own. same q own) (λ group. refl) refl);
  actors = meets.actors;
  groups = meets.groups;
  members = meets.members;
  starting = meets.starting;
  apart = meets.apart;
  named = meets.named;
}

-- ---- another list takes the place of one

put_over : (lists_before : Lists) (k : Key) (list : Acl) (q : Key) (b : Bool) → is_some (finite.get lists_before k) ≡ true → eq_by_cmp key_cmp q k ≡ b
    → is_some (cond b (Some list) (finite.get lists_before q)) ≡ is_some (finite.get lists_before q)
put_over lists_before k list q true there same = sym there ∙ ap (λ (x : Key). is_some (finite.get lists_before x)) (sym (same_keys q k same))
put_over lists_before k list q false there other = refl

pub put_list : (o : Organisation) (k : Key) (list : Acl) → AccessConditions o → is_some (finite.get o.lists k) ≡ true → NamesKnown o.membership list
    → AccessConditions (with_lists (finite.insert o.lists k list) o)
put_list o k list meets there known = record {
  listed = λ q. ap is_some (put-at o.lists k list q) ∙ put_over o.lists k list q (eq_by_cmp key_cmp q k) there refl ∙ meets.listed q;
  actors = λ q found p name is listed. elim (found_in o.lists k list q found is) [
    | inl same ↦ known.actors p name (subst (λ (x : Acl). lists (entry_of p x).actors name ≡ true) (sym same) listed)
    | inr was ↦ meets.actors q found p name was listed
  ];
  groups = λ q found p name is listed. elim (found_in o.lists k list q found is) [
    | inl same ↦ known.groups p name (subst (λ (x : Acl). lists (entry_of p x).groups name ≡ true) (sym same) listed)
    | inr was ↦ meets.groups q found p name was listed
  ];
  members = meets.members;
  starting = meets.starting;
  apart = meets.apart;
  named = meets.named;
}
