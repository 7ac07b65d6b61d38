-- Changes that keep the conditions of an organisation's access lists, users, clients and groups.
use Rattle.std.proofs.Common.{◌≡◌, ℕ, List, Bool, true, false, cond, inl, inr, Some, None, is_some, bytes_eq, refl, sym, ap, subst, ◌∙◌}
use Rattle.std.specs.FinMap as finite
use Rattle.std.specs.Ordering.{eq_by_cmp}
use Rattle.membership.specs.declared.member_kind.MemberKind.{MemberKind}
use Rattle.membership.specs.declared.member_kind.MemberKind.TheVariants as member
use Rattle.membership.specs.Changes.{with_user, without_user, with_client, without_client}
use Rattle.membership.specs.MapValues.{map_values}
use Rattle.membership.specs.Members.{Members, GroupsByName, Membership, no_members}
use Rattle.membership.specs.StartingGroups.{is_starting_group}
use Rattle.membership.specs.Actors as membership
use Rattle.membership.specs.TextSets.{lists}
use Rattle.membership.proofs.MapValuesLemmas.{get-map_values, is_some-map_values}
use Rattle.access_lists.specs.declared.acl.Acl.{Acl}
use Rattle.access_lists.specs.declared.acl.Entry.{Entry}
use Rattle.access_lists.specs.declared.perm.Perm.{Perm}
use Rattle.access_lists.specs.Acls.{entry_of, each_entry, without_actor, without_group}
use Rattle.doc_tree.specs.Name.{is_name}
use Rattle.doc_tree.specs.declared.kind.Kind.{Kind}
use Rattle.doc_tree.specs.declared.kind.Kind.TheVariants as kinds
use Rattle.object_store.specs.Keys.{key_cmp_total}
use Rattle.object_store.specs.Objects.{Lists, key, key_cmp}
use Rattle.object_store.specs.declared.key.Key.{Key}
use Rattle.org_core.proofs.ObjectConditionsLemmas.{same_keys, ties_itself}
use Rattle.org_core.specs.AccessConditions.{has_listed, has_member, AccessConditions}
use Rattle.org_core.specs.Moves.{joins, leaves, lists_without_actor, lists_without_group, with_lists, with_membership}
use Rattle.org_core.specs.States.{Organisation}
use Rattle.org_core.proofs.MembershipLemmas.{Comes, Goes, comes_client, comes_group, comes_user, get-left, get-put, goes_client, goes_group, goes_user, group_grows, group_there, group_was, has-joins, has-leaves, in_put, itself, mapped, put_group, same_name, take_group}
use Rattle.org_core.proofs.ActorsLemmas.{actor_grows, actor_stays, comes_apart, goes_apart, group_comes_apart, is_false, is_free}
use Rattle.org_core.proofs.ListedLemmas.{NamesKnown, entry_each, found_in, found_still, known_grows, left-at, lists_without, put-at, same_listed}

-- ---- a user or a client comes

named_comes : (kind : MemberKind) (name : List ℕ) (m new : Membership) → Comes kind name m new → ((k : MemberKind) (q : List ℕ) → membership.has m k q ≡ true → is_name q ≡ true) → is_name name ≡ true
    → (k : MemberKind) (q : List ℕ) → membership.has new k q ≡ true → is_name q ≡ true
named_comes kind name m new comes named form k q is =
    elim (comes.was k q is) [
      | inl was ↦ named k q was
      | inr (same_kind, same) ↦ subst (λ (n : List ℕ). is_name n ≡ true) (sym same) form
    ]

members_come : (kind : MemberKind) (name : List ℕ) (o : Organisation) (new : Membership) → Comes kind name o.membership new → AccessConditions o
    → (group : List ℕ) (members : Members) (k : MemberKind) (q : List ℕ) → finite.get new.groups group ≡ Some members → has_member k q members ≡ true → membership.has new k q ≡ true
members_come kind name o new comes meets group members k q found is =
    elim (comes.members group k q (members, found, is)) [
      | inl (old, was, had) ↦ comes.grows k q (meets.members group old k q was had)
      | inr (same_kind, same) ↦ subst (λ (x : MemberKind). membership.has new x q ≡ true) (sym same_kind) (subst (λ (n : List ℕ). membership.has new kind n ≡ true) (sym same) comes.there)
    ]

person_comes : (kind : MemberKind) (name : List ℕ) (o : Organisation) (new : Membership) → Comes kind name o.membership new
    → ((q : List ℕ) → membership.has new member.Group q ≡ membership.has o.membership member.Group q) → AccessConditions o → membership.is_actor o.membership name ≡ false → is_name name ≡ true
    → AccessConditions (with_membership new o)
person_comes kind name o new comes same_groups meets free form = record {
  listed = λ q. meets.listed q ∙ sym (same_listed o (with_membership new o) q.kind q.name (λ own. refl) (λ group. same_groups q.name) refl);
  actors = λ q found p actor is listed. actor_grows kind name o.membership new actor comes (meets.actors q found p actor is listed);
  groups = λ q found p group is listed. comes.grows member.Group group (meets.groups q found p group is listed);
  members = members_come kind name o new comes meets;
  starting = λ group is. comes.grows member.Group group (meets.starting group is);
  apart = comes_apart kind name o.membership new comes (is_free o.membership name free) meets.apart;
  named = named_comes kind name o.membership new comes meets.named form;
}

pub user_comes : (o : Organisation) (group name : List ℕ) → AccessConditions o → membership.is_actor o.membership name ≡ false → is_name name ≡ true
    → AccessConditions (with_membership (joins group member.User name (with_user name o.membership)) o)
user_comes o group name meets free form =
    person_comes member.User name o (joins group member.User name (with_user name o.membership)) (comes_user group name o.membership)
    (λ q. has-joins group member.User name (with_user name o.membership) member.Group q) meets free form

pub client_comes : (o : Organisation) (group name : List ℕ) → AccessConditions o → membership.is_actor o.membership name ≡ false → is_name name ≡ true
    → AccessConditions (with_membership (joins group member.Client name (with_client name o.membership)) o)
client_comes o group name meets free form =
    person_comes member.Client name o (joins group member.Client name (with_client name o.membership)) (comes_client group name o.membership)
    (λ q. has-joins group member.Client name (with_client name o.membership) member.Group q) meets free form

-- ---- a user or a client goes

module _ (change : Entry → Entry) where
  -- a list once each of its entries was changed alike
  pub changed_list : (lists_before : Lists) (k : Key) (list : Acl) → finite.get (map_values (each_entry change) lists_before) k ≡ Some list
      → (old : Acl) × (finite.get lists_before k ≡ Some old) × (list ≡ each_entry change old)
  changed_list lists_before k list is =
      mapped (each_entry change) (finite.get lists_before k) list (sym (get-map_values (each_entry change) key_cmp_total lists_before k) ∙ is)

  entry_changed : (list old : Acl) (p : Perm) → list ≡ each_entry change old → entry_of p list ≡ change (entry_of p old)
  entry_changed list old p is = ap (entry_of p) is ∙ entry_each change old p

members_go : (kind : MemberKind) (name : List ℕ) (o : Organisation) (new : Membership) → Goes kind name o.membership new → AccessConditions o
    → (group : List ℕ) (members : Members) (k : MemberKind) (q : List ℕ) → finite.get new.groups group ≡ Some members → has_member k q members ≡ true → membership.has new k q ≡ true
members_go kind name o new goes meets group members k q found is =
    let was = goes.members group k q (members, found, is) in
    let (old, found_old, had) = was.0 in
    goes.stays k q (meets.members group old k q found_old had) was.1

person_goes : (kind : MemberKind) (name : List ℕ) (o : Organisation) (new : Membership) → (kind ≡ member.Group → ⊥) → Goes kind name o.membership new
    → ((q : List ℕ) → membership.has new member.Group q ≡ membership.has o.membership member.Group q) → AccessConditions o
    → AccessConditions (with_membership new (with_lists (lists_without_actor name o.lists) o))
person_goes kind name o new person goes same_groups meets =
    let after : Organisation = with_membership new (with_lists (lists_without_actor name o.lists) o) in
    let stays_group : (q : List ℕ) → membership.has o.membership member.Group q ≡ true → membership.has new member.Group q ≡ true = λ q is. same_groups q ∙ is in
    record {
      listed = λ q. is_some-map_values (each_entry (without_actor name)) key_cmp_total o.lists q ∙ meets.listed q ∙ sym (same_listed o after q.kind q.name (λ own. refl) (λ group. same_groups q.name) refl);
      actors = λ q found p actor is listed.
          let (old, was, same) = changed_list (without_actor name) o.lists q found is in
          let left = lists_without name (entry_of p old).actors actor (subst (λ (e : Entry). lists e.actors actor ≡ true) (entry_changed (without_actor name) found old p same) listed) in
          actor_stays kind name o.membership new actor goes (λ k same. left.1 same) (λ k same. left.1 same) (meets.actors q old p actor was left.0);
      groups = λ q found p group is listed.
          let (old, was, same) = changed_list (without_actor name) o.lists q found is in
          stays_group group (meets.groups q old p group was (subst (λ (e : Entry). lists e.groups group ≡ true) (entry_changed (without_actor name) found old p same) listed));
      members = members_go kind name o new goes meets;
      starting = λ group is. stays_group group (meets.starting group is);
      apart = goes_apart kind name o.membership new goes meets.apart;
      named = λ k q is. meets.named k q (goes.had k q is);
    }

pub user_goes : (o : Organisation) (name : List ℕ) → AccessConditions o
    → AccessConditions (with_membership (leaves member.User name (without_user name o.membership)) (with_lists (lists_without_actor name o.lists) o))
user_goes o name meets =
    person_goes member.User name o (leaves member.User name (without_user name o.membership)) (λ same. cc) (goes_user name o.membership)
    (λ q. has-leaves member.User name (without_user name o.membership) member.Group q) meets

pub client_goes : (o : Organisation) (name : List ℕ) → AccessConditions o
    → AccessConditions (with_membership (leaves member.Client name (without_client name o.membership)) (with_lists (lists_without_actor name o.lists) o))
client_goes o name meets =
    person_goes member.Client name o (leaves member.Client name (without_client name o.membership)) (λ same. cc) (goes_client name o.membership)
    (λ q. has-leaves member.Client name (without_client name o.membership) member.Group q) meets

-- ---- groups

-- keys of one kind are apart where their names are
pub other_key : (kind : Kind) (one two : List ℕ) (b : Bool) → bytes_eq one two ≡ b → eq_by_cmp key_cmp (key kind one) (key kind two) ≡ false → b ≡ false
other_key kind one two false is apart = refl
other_key kind one two true is apart =
    cc (sym (ties_itself (key kind one)) ∙ subst (λ (n : List ℕ). eq_by_cmp key_cmp (key kind one) (key kind n) ≡ false) (sym (same_name one two is)) apart)

-- of a key that isn't this group's, where it is a group's
other_group : (name : List ℕ) (q : Key) → q.kind ≡ kinds.Group → eq_by_cmp key_cmp q (key kinds.Group name) ≡ false → bytes_eq q.name name ≡ false
other_group name q group other =
    other_key kinds.Group q.name name (bytes_eq q.name name) refl (subst (λ (kind : Kind). eq_by_cmp key_cmp (key kind q.name) (key kinds.Group name) ≡ false) group other)

has-put_group : (name : List ℕ) (members : Members) (m : Membership) (q : List ℕ) → bytes_eq q name ≡ false → membership.has (put_group name members m) member.Group q ≡ membership.has m member.Group q
has-put_group name members m q other = ap is_some (get-put m.groups name members q) ∙ ap (λ b. is_some (cond b (Some members) (finite.get m.groups q))) other

group_listed : (o : Organisation) (name : List ℕ) (list : Acl) (q : Key) (b : Bool) → AccessConditions o → eq_by_cmp key_cmp q (key kinds.Group name) ≡ b
    → is_some (cond b (Some list) (finite.get o.lists q))
    ≡ has_listed (with_lists (finite.insert o.lists (key kinds.Group name) list) (with_membership (put_group name no_members o.membership) o)) q.kind q.name
group_listed o name list q true meets same =
    let after : Organisation = with_lists (finite.insert o.lists (key kinds.Group name) list) (with_membership (put_group name no_members o.membership) o) in
    subst (λ (x : Key). true ≡ has_listed after x.kind x.name) (sym (same_keys q (key kinds.Group name) same)) (sym (group_there name no_members o.membership))
group_listed o name list q false meets other =
    let after : Organisation = with_lists (finite.insert o.lists (key kinds.Group name) list) (with_membership (put_group name no_members o.membership) o) in
    meets.listed q
    ∙ sym (same_listed o after q.kind q.name (λ own. refl) (λ group. has-put_group name no_members o.membership q.name (other_group name q group other)) refl)

-- a group comes without members, with its list
pub group_comes : (o : Organisation) (name : List ℕ) (list : Acl) → AccessConditions o → NamesKnown o.membership list → is_name name ≡ true
    → AccessConditions (with_lists (finite.insert o.lists (key kinds.Group name) list) (with_membership (put_group name no_members o.membership) o))
group_comes o name list meets known form =
    let new : Membership = put_group name no_members o.membership in
    let comes : Comes member.Group name o.membership new = comes_group name o.membership in
    let known_then : NamesKnown new list = known_grows member.Group name o.membership new list comes known in
    record {
      listed = λ q. ap is_some (put-at o.lists (key kinds.Group name) list q) ∙ group_listed o name list q (eq_by_cmp key_cmp q (key kinds.Group name)) meets refl;
      actors = λ q found p actor is listed. elim (found_in o.lists (key kinds.Group name) list q found is) [
        | inl same ↦ known_then.actors p actor (subst (λ (x : Acl). lists (entry_of p x).actors actor ≡ true) (sym same) listed)
        | inr was ↦ actor_grows member.Group name o.membership new actor comes (meets.actors q found p actor was listed)
      ];
      groups = λ q found p group is listed. elim (found_in o.lists (key kinds.Group name) list q found is) [
        | inl same ↦ known_then.groups p group (subst (λ (x : Acl). lists (entry_of p x).groups group ≡ true) (sym same) listed)
        | inr was ↦ comes.grows member.Group group (meets.groups q found p group was listed)
      ];
      members = members_come member.Group name o new comes meets;
      starting = λ group is. comes.grows member.Group group (meets.starting group is);
      apart = group_comes_apart name o.membership new comes meets.apart;
      named = named_comes member.Group name o.membership new comes meets.named form;
    }

there_again : (groups : GroupsByName) (name : List ℕ) (members : Members) (q : List ℕ) (b : Bool) → is_some (finite.get groups name) ≡ true → bytes_eq q name ≡ b
    → is_some (cond b (Some members) (finite.get groups q)) ≡ is_some (finite.get groups q)
there_again groups name members q true there same = sym there ∙ ap (λ (n : List ℕ). is_some (finite.get groups n)) (sym (same_name q name same))
there_again groups name members q false there other = refl

-- a group that is there gets other members, who are there
pub group_changes : (o : Organisation) (name : List ℕ) (members : Members) → AccessConditions o → membership.has o.membership member.Group name ≡ true
    → ((k : MemberKind) (q : List ℕ) → has_member k q members ≡ true → membership.has o.membership k q ≡ true) → AccessConditions (with_membership (put_group name members o.membership) o)
group_changes o name members meets there known =
    let new : Membership = put_group name members o.membership in
    let same_groups : (q : List ℕ) → membership.has new member.Group q ≡ membership.has o.membership member.Group q =
    λ q. ap is_some (get-put o.membership.groups name members q) ∙ there_again o.membership.groups name members q (bytes_eq q name) there refl in
    record {
      listed = λ q. meets.listed q ∙ sym (same_listed o (with_membership new o) q.kind q.name (λ own. refl) (λ group. same_groups q.name) refl);
      actors = meets.actors;
      groups = λ q found p group is listed. same_groups group ∙ meets.groups q found p group is listed;
      members = λ group found k q is in_it. elim (in_put name members o.membership group k q (found, is, in_it)) [
        | inl one ↦ group_grows name members o.membership k q (known k q one)
        | inr (old, was, had) ↦ group_grows name members o.membership k q (meets.members group old k q was had)
      ];
      starting = λ group is. same_groups group ∙ meets.starting group is;
      apart = record { apart = meets.apart.apart; operator_apart = meets.apart.operator_apart };
      named = λ k q is. meets.named k q (elim (group_was name members o.membership k q is) [
        | inl was ↦ was
        | inr (group, same) ↦ subst (λ (x : MemberKind). membership.has o.membership x q ≡ true) (sym group) (subst (λ (n : List ℕ). membership.has o.membership member.Group n ≡ true) (sym same) there)
      ]);
    }

has-taken : (name : List ℕ) (m : Membership) (q : List ℕ) (b : Bool) → bytes_eq q name ≡ b → membership.has (leaves member.Group name (take_group name m)) member.Group q ≡ is_some (cond b None (finite.get m.groups q))
has-taken name m q b is =
    has-leaves member.Group name (take_group name m) member.Group q
    ∙ ap is_some (get-left m.groups name q)
    ∙ ap (λ b. is_some (cond b None (finite.get m.groups q))) is

-- the organisation once a group went, out of every group and every list
abbrev without_this_group : List ℕ → Organisation → Organisation
without_this_group name o =
    with_membership (leaves member.Group name (take_group name o.membership)) (with_lists (lists_without_group name (finite.remove o.lists (key kinds.Group name))) o)

taken_listed : (o : Organisation) (name : List ℕ) (q : Key) (b : Bool) → AccessConditions o → eq_by_cmp key_cmp q (key kinds.Group name) ≡ b
    → is_some (cond b None (finite.get o.lists q)) ≡ has_listed (without_this_group name o) q.kind q.name
taken_listed o name q true meets same =
    subst (λ (x : Key). false ≡ has_listed (without_this_group name o) x.kind x.name) (sym (same_keys q (key kinds.Group name) same)) (sym (has-taken name o.membership name true (itself name)))
taken_listed o name q false meets other =
    meets.listed q
    ∙ sym (same_listed o (without_this_group name o) q.kind q.name (λ own. refl) (λ group. has-taken name o.membership q.name false (other_group name q group other)) refl)

not_starting : (name q : List ℕ) → is_starting_group name ≡ false → is_starting_group q ≡ true → q ≡ name → ⊥
not_starting name q free is same = is_false (is_starting_group name) free (subst (λ (n : List ℕ). is_starting_group n ≡ true) same is)

-- a group that isn't one of the starting groups goes
pub group_goes : (o : Organisation) (name : List ℕ) → AccessConditions o → is_starting_group name ≡ false → AccessConditions (without_this_group name o)
group_goes o name meets free =
    let new : Membership = leaves member.Group name (take_group name o.membership) in
    let goes : Goes member.Group name o.membership new = goes_group name o.membership in
    let before : Lists = finite.remove o.lists (key kinds.Group name) in
    record {
      listed = λ q. is_some-map_values (each_entry (without_group name)) key_cmp_total before q ∙ ap is_some (left-at o.lists (key kinds.Group name) q)
          ∙ taken_listed o name q (eq_by_cmp key_cmp q (key kinds.Group name)) meets refl;
      actors = λ q found p actor is listed.
          let (old, was, same) = changed_list (without_group name) before q found is in
          actor_stays member.Group name o.membership new actor goes (λ k same. cc) (λ k same. cc)
          (meets.actors q old p actor (found_still o.lists (key kinds.Group name) q old was) (subst (λ (e : Entry). lists e.actors actor ≡ true) (entry_changed (without_group name) found old p same) listed));
      groups = λ q found p group is listed.
          let (old, was, same) = changed_list (without_group name) before q found is in
          let left = lists_without name (entry_of p old).groups group (subst (λ (e : Entry). lists e.groups group ≡ true) (entry_changed (without_group name) found old p same) listed) in
          goes.stays member.Group group (meets.groups q old p group (found_still o.lists (key kinds.Group name) q old was) left.0) (λ k same. left.1 same);
      members = members_go member.Group name o new goes meets;
      starting = λ group is. goes.stays member.Group group (meets.starting group is) (λ k same. not_starting name group free is same);
      apart = goes_apart member.Group name o.membership new goes meets.apart;
      named = λ k q is. meets.named k q (goes.had k q is);
    }
