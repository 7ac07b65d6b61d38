-- The conditions of users, clients, groups and lists, of what the rows say and ask for.
use Rattle.std.proofs.Common.{◌≡◌, ◌⊎◌, inl, inr, ℕ, List, [], ◌∷◌, ◌++◌, map, Bool, true, false, cond, not, ◌&&◌, ◌||◌, Option, Some, None, is_some, option_map, bytes_eq, refl, sym, ap, subst, ◌∙◌}
use mathlib.Core.Bool.{true≢false}
use Rattle.std.proofs.lemmas.Bool.{and_parts, or_left, or_right}
use Rattle.std.specs.FinMap as finite
use Rattle.std.specs.FinSet as set
use Rattle.std.specs.List.{list_all}
use Rattle.doc_tree.specs.Name.{is_name}
use Rattle.doc_tree.specs.declared.kind.Kind.TheVariants as kinds
use Rattle.membership.proofs.TextSetLemmas.{any-tied}
use Rattle.membership.specs.Actors as membership
use Rattle.membership.specs.Actors.{operator}
use Rattle.membership.specs.Members.{Members}
use Rattle.membership.specs.TextSets.{Names, lists}
use Rattle.membership.specs.declared.member_kind.MemberKind.{MemberKind}
use Rattle.membership.specs.declared.member_kind.MemberKind.TheVariants as member
use Rattle.access_lists.specs.Acls.{entry_of}
use Rattle.access_lists.specs.declared.acl.Acl.{Acl}
use Rattle.access_lists.specs.declared.perm.Perm.{Perm}
use Rattle.access_lists.specs.declared.perm.Perm.TheVariants.{Create, Read, Update, Delete, Grant}
use Rattle.object_store.specs.Keys.{key}
use Rattle.object_store.specs.declared.key.Key.{Key}
use Rattle.outside_keeper.specs.Rows.{KeptRows}
use Rattle.org_core.specs.AccessConditions.{AreApart, has_member}
use Rattle.org_core.specs.States.{Organisation, nothing}
use Rattle.sandboxes.specs.Sandboxes.{Holding}
use Rattle.sandboxes.specs.Sandboxes as sandboxes
use Rattle.org_rows.specs.Places as place
use Rattle.org_rows.specs.Places.{Place, IsPlace, is_actor_name, row_of, where_}
use Rattle.org_rows.specs.References.{is_met, has_row, own_needs, member_needs, list_needs, entry_needs, actor, there, thing as need_thing}
use Rattle.org_rows.specs.Things.{Content, document, name_alone, members, list}
use Rattle.row_laying.proofs.ClientLemmas.{has_its_clients}
use Rattle.row_laying.proofs.KeptLemmas.{all_front, all_behind, each_text, own_user, own_client, own_group, there_is, own_met, where_is}
use Rattle.row_laying.proofs.RowsLemmas.{o, files, StandsInNothing, from_nothing}
use Rattle.row_laying.proofs.SoundLemmas.{IsToldOf, sound}
use Rattle.row_reading.specs.declared.said.Said.{Said}
use Rattle.org_rows.specs.Contents.{content_in}
use Rattle.row_laying.specs.KeptRows.{AreKept}

-- nothing has an object, a user, a group or a list
pub none_object : (k : Key) → StandsInNothing (place.object k) → ⊥
none_object k (inl at) = cc
none_object k (inr at) = cc at.1

none_user : (name : List ℕ) → StandsInNothing (place.user name) → ⊥
none_user name (inl at) = cc
none_user name (inr at) = cc at.1

pub none_group : (name : List ℕ) → StandsInNothing (place.group name) → ⊥
none_group name (inl at) = cc
none_group name (inr at) = cc at.1

pub none_acl : (k : Key) → StandsInNothing (place.acl k) → ⊥
none_acl k (inl at) = cc
none_acl k (inr at) = cc at.1

-- ---- what is there

user_there : (b : Bool) → b ≡ true → cond b (Some name_alone) None ≡ Some name_alone
user_there true is = refl
user_there false is = absurd (true≢false (sym is))

there_user : (b : Bool) → is_some (cond b (Some name_alone) None) ≡ true → b ≡ true
there_user true is = refl
there_user false is = absurd (true≢false (sym is))

pub there_mapped : {X : Type 0} (to : X → Content) (found : Option X) → is_some (option_map to found) ≡ true → is_some found ≡ true
there_mapped to None is = is
there_mapped to (Some x) is = refl

pub mapped_there : {X : Type 0} (to : X → Content) (found : Option X) → is_some found ≡ true → (content : Content) × (option_map to found ≡ Some content)
mapped_there to None is = absurd (true≢false (sym is))
mapped_there to (Some x) is = (to x, refl)

not_true : (b : Bool) → not b ≡ true → b ≡ true → ⊥
not_true true is also = true≢false (sym is)
not_true false is also = true≢false (sym also)

in_items : (names : Names) (name : List ℕ) → set.contains names name ≡ true → lists (set.items names) name ≡ true
in_items names name is = sym (any-tied name (set.items names)) ∙ sym (set.contains-items names name) ∙ is

operator_is_none : is_actor_name operator ≡ false
operator_is_none = refl

module _ (org : List ℕ) (rows : KeptRows) (all : List Said) (are : AreKept org rows all) where
  abbrev pub laid : Organisation
  laid = o org rows all are.are_said

  abbrev pub held : Holding
  held = files org rows all are.are_said

  -- what stands at a place where nothing has anything is told
  pub told_of : (q : Place) (content : Content) → (StandsInNothing q → ⊥) → content_in laid held q ≡ Some content → IsToldOf all q content
  told_of q content none is = told_from (sound all nothing sandboxes.nothing q content is)
    where
      told_from : (content_in nothing sandboxes.nothing q ≡ Some content) ⊎ IsToldOf all q content → IsToldOf all q content
      told_from (inl was) = absurd (none (from_nothing q content was))
      told_from (inr told) = told

  -- what is told of a place has the place's form, its row is there, and its needs are met
  pub told_named : (q : Place) (content : Content) → IsToldOf all q content → IsPlace q
  told_named q content told = subst IsPlace (sym told.2) (are.are_said.each told.0 told.1).named

  pub told_row : (q : Place) (content : Content) → IsToldOf all q content → has_row rows org q ≡ true
  told_row q content told = ap (λ p. is_some (finite.get rows (row_of org p))) told.2 ∙ ap is_some (are.are_said.each told.0 told.1).there

  pub told_met : (q : Place) (content : Content) → IsToldOf all q content → list_all (is_met rows org) (own_needs q content) ≡ true
  told_met q content told =
      (λ i. list_all (is_met rows org) (own_needs (told.2 i) (told.3 i))) ∙ own_met org rows all are told.0 told.1

  -- who has a row is there
  pub user_row : (name : List ℕ) → has_row rows org (place.user name) ≡ true → membership.has laid.membership member.User name ≡ true
  user_row name is = there_user (set.contains laid.membership.users name) (there_is org rows all are (place.user name) (is_actor_name name) (own_user org name) is)

  pub client_row : (name : List ℕ) → has_row rows org (place.object (key kinds.Client name)) ≡ true → membership.has laid.membership member.Client name ≡ true
  client_row name is =
      has_its_clients all name
      ∙ there_mapped document (finite.get laid.objects (key kinds.Client name)) (there_is org rows all are (place.object (key kinds.Client name)) (is_actor_name name) (own_client org name) is)

  pub group_row : (name : List ℕ) → has_row rows org (place.group name) ≡ true → membership.has laid.membership member.Group name ≡ true
  group_row name is = there_mapped members (finite.get laid.membership.groups name) (there_is org rows all are (place.group name) (is_name name) (own_group org name) is)

  -- and who is there is told
  user_told : (name : List ℕ) → membership.has laid.membership member.User name ≡ true → IsToldOf all (place.user name) name_alone
  user_told name is = told_of (place.user name) name_alone (none_user name) (user_there (set.contains laid.membership.users name) is)

  client_told : (name : List ℕ) → membership.has laid.membership member.Client name ≡ true → (content : Content) × IsToldOf all (place.object (key kinds.Client name)) content
  client_told name is =
      let found = mapped_there document (finite.get laid.objects (key kinds.Client name)) (sym (has_its_clients all name) ∙ is) in
      (found.0, told_of (place.object (key kinds.Client name)) found.0 (none_object (key kinds.Client name)) found.1)

  group_told : (name : List ℕ) → membership.has laid.membership member.Group name ≡ true → (content : Content) × IsToldOf all (place.group name) content
  group_told name is =
      let found = mapped_there members (finite.get laid.membership.groups name) is in
      (found.0, told_of (place.group name) found.0 (none_group name) found.1)

  -- ---- who is in a group is there

  pub members_there : (group : List ℕ) (within : Members) (kind : MemberKind) (name : List ℕ) → finite.get laid.membership.groups group ≡ Some within
      → has_member kind name within ≡ true → membership.has laid.membership kind name ≡ true
  members_there group within kind name is has_it =
      let met = told_met (place.group group) (members within) (told_of (place.group group) (members within) (none_group group) (ap (option_map members) is)) in
      by_kind kind has_it met
    where
      by_kind : (kind : MemberKind) → has_member kind name within ≡ true → list_all (is_met rows org) (member_needs within) ≡ true → membership.has laid.membership kind name ≡ true
      by_kind member.User has_it met =
          user_row name (each_text (is_met rows org) (λ q. there (place.user q)) (set.items within.users) name
          (all_front (is_met rows org) (map (λ q. there (place.user q)) (set.items within.users)) (map (λ q. there (place.object (key kinds.Client q))) (set.items within.clients))
          (all_front (is_met rows org) (map (λ q. there (place.user q)) (set.items within.users) ++ map (λ q. there (place.object (key kinds.Client q))) (set.items within.clients)) (map (λ q. there (place.group q)) (set.items within.groups)) met))
          (in_items within.users name has_it))
      by_kind member.Client has_it met =
          client_row name (each_text (is_met rows org) (λ q. there (place.object (key kinds.Client q))) (set.items within.clients) name
          (all_behind (is_met rows org) (map (λ q. there (place.user q)) (set.items within.users)) (map (λ q. there (place.object (key kinds.Client q))) (set.items within.clients))
          (all_front (is_met rows org) (map (λ q. there (place.user q)) (set.items within.users) ++ map (λ q. there (place.object (key kinds.Client q))) (set.items within.clients)) (map (λ q. there (place.group q)) (set.items within.groups)) met))
          (in_items within.clients name has_it))
      by_kind member.Group has_it met =
          group_row name (each_text (is_met rows org) (λ q. there (place.group q)) (set.items within.groups) name
          (all_behind (is_met rows org) (map (λ q. there (place.user q)) (set.items within.users) ++ map (λ q. there (place.object (key kinds.Client q))) (set.items within.clients)) (map (λ q. there (place.group q)) (set.items within.groups)) met)
          (in_items within.groups name has_it))

  -- ---- who is in a list is there

  entry_met : (permission : Perm) (acl : Acl) → list_all (is_met rows org) (list_needs acl) ≡ true → list_all (is_met rows org) (entry_needs (entry_of permission acl)) ≡ true
  entry_met Create acl met = all_front (is_met rows org) (entry_needs acl.create) _ met
  entry_met Read acl met = all_front (is_met rows org) (entry_needs acl.read) _ (all_behind (is_met rows org) (entry_needs acl.create) _ met)
  entry_met Update acl met = all_front (is_met rows org) (entry_needs acl.update) _ (all_behind (is_met rows org) (entry_needs acl.read) _ (all_behind (is_met rows org) (entry_needs acl.create) _ met))
  entry_met Delete acl met =
      all_front (is_met rows org) (entry_needs acl.delete) _ (all_behind (is_met rows org) (entry_needs acl.update) _ (all_behind (is_met rows org) (entry_needs acl.read) _ (all_behind (is_met rows org) (entry_needs acl.create) _ met)))
  entry_met Grant acl met =
      all_front (is_met rows org) (entry_needs acl.grant) _
      (all_behind (is_met rows org) (entry_needs acl.delete) _ (all_behind (is_met rows org) (entry_needs acl.update) _ (all_behind (is_met rows org) (entry_needs acl.read) _ (all_behind (is_met rows org) (entry_needs acl.create) _ met))))

  list_entry : (k : Key) (acl : Acl) (permission : Perm) → finite.get laid.lists k ≡ Some acl → list_all (is_met rows org) (entry_needs (entry_of permission acl)) ≡ true
  list_entry k acl permission is =
      entry_met permission acl (all_behind (is_met rows org) (need_thing k ∷ []) (list_needs acl) (told_met (place.acl k) (list acl) (told_of (place.acl k) (list acl) (none_acl k) (ap (option_map list) is))))

  actor_met : (name : List ℕ) (a b c : Bool) → (a || (b || c)) ≡ true → (x y : Bool) → (b ≡ true → x ≡ true) → (c ≡ true → y ≡ true) → (a || (x || y)) ≡ true
  actor_met name true b c is x y by by' = refl
  actor_met name false true c is x y by by' = or_left x y (by refl)
  actor_met name false false c is x y by by' = or_right x y (by' is)

  pub actors_there : (k : Key) (acl : Acl) (permission : Perm) (name : List ℕ) → finite.get laid.lists k ≡ Some acl
      → lists (entry_of permission acl).actors name ≡ true → membership.is_actor laid.membership name ≡ true
  actors_there k acl permission name is listed =
      let entry = entry_of permission acl in
      let met : is_met rows org (actor name) ≡ true =
      each_text (is_met rows org) actor entry.actors name (all_front (is_met rows org) (map actor entry.actors) (map (λ q. there (place.group q)) entry.groups) (list_entry k acl permission is)) listed in
      actor_met name (bytes_eq name operator) (has_row rows org (place.user name)) (has_row rows org (place.object (key kinds.Client name))) met _ _ (user_row name) (client_row name)

  pub groups_there : (k : Key) (acl : Acl) (permission : Perm) (name : List ℕ) → finite.get laid.lists k ≡ Some acl
      → lists (entry_of permission acl).groups name ≡ true → membership.has laid.membership member.Group name ≡ true
  groups_there k acl permission name is listed =
      let entry = entry_of permission acl in
      group_row name (each_text (is_met rows org) (λ q. there (place.group q)) entry.groups name
      (all_behind (is_met rows org) (map actor entry.actors) (map (λ q. there (place.group q)) entry.groups) (list_entry k acl permission is)) listed)

  -- ---- names

  user_named : (name : List ℕ) → membership.has laid.membership member.User name ≡ true → is_actor_name name ≡ true
  user_named name is = (where_is (is_actor_name name) (place.user name) _ (told_named (place.user name) name_alone (user_told name is))).1

  client_named : (name : List ℕ) → membership.has laid.membership member.Client name ≡ true → is_actor_name name ≡ true
  client_named name is =
      let told = client_told name is in
      (where_is (is_actor_name name) (place.object (key kinds.Client name)) _ (told_named (place.object (key kinds.Client name)) told.0 told.1)).1

  group_named : (name : List ℕ) → membership.has laid.membership member.Group name ≡ true → is_name name ≡ true
  group_named name is =
      let told = group_told name is in
      (where_is (is_name name) (place.group name) _ (told_named (place.group name) told.0 told.1)).1

  pub all_named : (kind : MemberKind) (name : List ℕ) → membership.has laid.membership kind name ≡ true → is_name name ≡ true
  all_named member.User name is = (and_parts (is_name name) (not (bytes_eq name operator)) (user_named name is)).0
  all_named member.Client name is = (and_parts (is_name name) (not (bytes_eq name operator)) (client_named name is)).0
  all_named member.Group name is = group_named name is

  both_false : (a b : Bool) → (a ≡ true → b ≡ true → ⊥) → (a && b) ≡ false
  both_false true true never = absurd (never refl refl)
  both_false true false never = refl
  both_false false b never = refl

  neither : (a b : Bool) → (a ≡ true → ⊥) → (b ≡ true → ⊥) → (a || b) ≡ false
  neither true b never never' = absurd (never refl)
  neither false true never never' = absurd (never' refl)
  neither false false never never' = refl

  no_client : (name : List ℕ) → membership.has laid.membership member.User name ≡ true → membership.has laid.membership member.Client name ≡ true → ⊥
  no_client name user client =
      let told = client_told name client in
      let met = told_met (place.user name) name_alone (user_told name user) in
      not_true (has_row rows org (place.object (key kinds.Client name)))
      (and_parts (not (has_row rows org (place.object (key kinds.Client name)))) true met).0 (told_row (place.object (key kinds.Client name)) told.0 told.1)

  pub are_apart : AreApart laid.membership
  are_apart = record {
    apart = λ name. both_false _ _ (no_client name);
    operator_apart = neither _ _ (λ is. true≢false (sym (user_named operator is) ∙ operator_is_none)) (λ is. true≢false (sym (client_named operator is) ∙ operator_is_none));
  }
