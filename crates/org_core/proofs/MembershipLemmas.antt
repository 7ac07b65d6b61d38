-- Who joins a group and leaves it, who comes to an organisation and goes.
use Rattle.std.proofs.Common.{◌≡◌, ℕ, List, Bool, true, false, cond, not, ◌&&◌, ◌||◌, ◌⊎◌, inl, inr, Option, Some, None, is_some, option_map, bytes_eq, refl, sym, ap, subst, ◌∙◌}
use Rattle.std.proofs.lemmas.Bool.{and_parts, or_left, or_right}
use Rattle.std.proofs.lemmas.Option.{same_Some}
use Rattle.std.specs.Cmp.Lexicographic.{bytes_decides, nat_list_cmp_total}
use Rattle.std.specs.FinMap as finite
use Rattle.std.specs.FinSet as set
use Rattle.std.specs.Option.{option_map_or}
use Rattle.membership.specs.declared.member_kind.MemberKind.{MemberKind}
use Rattle.membership.specs.declared.member_kind.MemberKind.TheVariants as member
use Rattle.membership.specs.Changes.{changed, joined, left, with_user, without_user, with_client, without_client, with_groups}
use Rattle.membership.specs.Members.{Members, GroupsByName, Membership, no_members}
use Rattle.membership.specs.Actors as membership
use Rattle.membership.specs.TextSets.{Names}
use Rattle.membership.proofs.MapValuesLemmas.{get-map_values, is_some-map_values}
use Rattle.membership.proofs.TextSetLemmas.{tied}
use Rattle.org_core.specs.AccessConditions.{has_member}
use Rattle.org_core.specs.Moves.{joins, leaves}

-- ---- truth values, names and options

pub either : (a b : Bool) → (a || b) ≡ true → (a ≡ true) ⊎ (b ≡ true)
either true b is = inl refl
either false b is = inr is

pub same_name : (x y : List ℕ) → bytes_eq x y ≡ true → x ≡ y
same_name x y same = (bytes_decides x y).0 same

pub itself : (x : List ℕ) → bytes_eq x x ≡ true
itself x = (bytes_decides x x).1 refl

pub other_name : (x y : List ℕ) → bytes_eq x y ≡ false → x ≡ y → ⊥
other_name x y apart same = cc (sym ((bytes_decides x y).1 same) ∙ apart)

not_false : (b : Bool) → not b ≡ true → b ≡ false
not_false true is = cc
not_false false is = refl

module _ {X Y : Type 0} where
  pub mapped : (f : X → Y) (found : Option X) (y : Y) → option_map f found ≡ Some y → (x : X) × (found ≡ Some x) × (y ≡ f x)
  mapped f None y is = cc
  mapped f (Some x) y is = (x, refl, sym (same_Some (f x) y is))

  is_some-mapped : (f : X → Y) (found : Option X) → is_some (option_map f found) ≡ is_some found
  is_some-mapped f None = refl
  is_some-mapped f (Some x) = refl

-- ---- sets of names

pub contains-put : (names : Names) (name q : List ℕ) → set.contains (set.insert names name) q ≡ (bytes_eq q name || set.contains names q)
contains-put names name q = set.contains-insert nat_list_cmp_total names name q ∙ ap (λ b. b || set.contains names q) (tied q name)

pub contains-left : (names : Names) (name q : List ℕ) → set.contains (set.remove names name) q ≡ (not (bytes_eq q name) && set.contains names q)
contains-left names name q = set.contains-remove nat_list_cmp_total names name q ∙ ap (λ b. not b && set.contains names q) (tied q name)

-- a name that was there is there
put_grows : (names : Names) (name q : List ℕ) → set.contains names q ≡ true → set.contains (set.insert names name) q ≡ true
put_grows names name q is = contains-put names name q ∙ or_right (bytes_eq q name) (set.contains names q) is

put_there : (names : Names) (name : List ℕ) → set.contains (set.insert names name) name ≡ true
put_there names name = contains-put names name name ∙ or_left (bytes_eq name name) (set.contains names name) (itself name)

-- a name that is there was there, or is the one that came
put_was : (names : Names) (name q : List ℕ) → set.contains (set.insert names name) q ≡ true → (set.contains names q ≡ true) ⊎ (q ≡ name)
put_was names name q is =
    elim (either (bytes_eq q name) (set.contains names q) (sym (contains-put names name q) ∙ is)) [
      | inl same ↦ inr (same_name q name same)
      | inr there ↦ inl there
    ]

-- and a name that is left was there, and isn't the one that went
left_had : (names : Names) (name q : List ℕ) → set.contains (set.remove names name) q ≡ true → (set.contains names q ≡ true) × (q ≡ name → ⊥)
left_had names name q is =
    let parts = and_parts (not (bytes_eq q name)) (set.contains names q) (sym (contains-left names name q) ∙ is) in
    (parts.1, other_name q name (not_false (bytes_eq q name) parts.0))

kept_there : (b c : Bool) → c ≡ true → (b ≡ true → ⊥) → (not b && c) ≡ true
kept_there true c there other = absurd (other refl)
kept_there false c there other = there

left_stays : (names : Names) (name q : List ℕ) → set.contains names q ≡ true → (q ≡ name → ⊥) → set.contains (set.remove names name) q ≡ true
left_stays names name q there other =
    contains-left names name q ∙ kept_there (bytes_eq q name) (set.contains names q) there (λ same. other (same_name q name same))

-- ---- groups by their names

pub get-put : (groups : GroupsByName) (g : List ℕ) (members : Members) (q : List ℕ) → finite.get (finite.insert groups g members) q ≡ cond (bytes_eq q g) (Some members) (finite.get groups q)
get-put groups g members q = finite.get-insert nat_list_cmp_total groups g members q ∙ ap (λ b. cond b (Some members) (finite.get groups q)) (tied q g)

pub get-left : (groups : GroupsByName) (g q : List ℕ) → finite.get (finite.remove groups g) q ≡ cond (bytes_eq q g) None (finite.get groups q)
get-left groups g q = finite.get-remove nat_list_cmp_total groups g q ∙ ap (λ b. cond b None (finite.get groups q)) (tied q g)

-- the group that is found at a name, where it may be this one
found_there : (groups : GroupsByName) (g q : List ℕ) (found : Option Members) (b : Bool) → finite.get groups g ≡ found → bytes_eq q g ≡ b → finite.get groups q ≡ cond b found (finite.get groups q)
found_there groups g q found true is same = ap (λ (n : List ℕ). finite.get groups n) (same_name q g same) ∙ is
found_there groups g q found false is other = refl

-- what stands at each name once a group was changed
changed_at : (groups : GroupsByName) (g : List ℕ) (change : Members → Members) (q : List ℕ) (found : Option Members) → finite.get groups g ≡ found
    → finite.get (changed g change groups) q ≡ cond (bytes_eq q g) (option_map change found) (finite.get groups q)
changed_at groups g change q None is =
    ap (λ (found : Option Members). finite.get (option_map_or (λ members. finite.insert groups g (change members)) found groups) q) is
    ∙ found_there groups g q None (bytes_eq q g) is refl
changed_at groups g change q (Some members) is =
    ap (λ (found : Option Members). finite.get (option_map_or (λ members. finite.insert groups g (change members)) found groups) q) is
    ∙ get-put groups g (change members) q

there_changed : (groups : GroupsByName) (g : List ℕ) (change : Members → Members) (q : List ℕ) (b : Bool) → bytes_eq q g ≡ b
    → is_some (cond b (option_map change (finite.get groups g)) (finite.get groups q)) ≡ is_some (finite.get groups q)
there_changed groups g change q true same = is_some-mapped change (finite.get groups g) ∙ ap (λ (n : List ℕ). is_some (finite.get groups n)) (sym (same_name q g same))
there_changed groups g change q false other = refl

-- the same groups are there
is_some-changed : (groups : GroupsByName) (g : List ℕ) (change : Members → Members) (q : List ℕ) → is_some (finite.get (changed g change groups) q) ≡ is_some (finite.get groups q)
is_some-changed groups g change q = ap is_some (changed_at groups g change q (finite.get groups g) refl) ∙ there_changed groups g change q (bytes_eq q g) refl

-- a group that is found was so, or is the one that was changed
abbrev WasOrIs : GroupsByName → (Members → Members) → List ℕ → Members → Type 0
WasOrIs groups change q members = (finite.get groups q ≡ Some members) ⊎ ((old : Members) × (finite.get groups q ≡ Some old) × (members ≡ change old))

one_changed : (groups : GroupsByName) (g : List ℕ) (change : Members → Members) (q : List ℕ) (members : Members) (b : Bool) → bytes_eq q g ≡ b
    → cond b (option_map change (finite.get groups g)) (finite.get groups q) ≡ Some members → WasOrIs groups change q members
one_changed groups g change q members true same is =
    let old = mapped change (finite.get groups g) members is in
    inr (old.0, ap (λ (n : List ℕ). finite.get groups n) (same_name q g same) ∙ old.1, old.2)
one_changed groups g change q members false other is = inl is

found_changed : (groups : GroupsByName) (g : List ℕ) (change : Members → Members) (q : List ℕ) (members : Members) → finite.get (changed g change groups) q ≡ Some members → WasOrIs groups change q members
found_changed groups g change q members is =
    one_changed groups g change q members (bytes_eq q g) refl (sym (changed_at groups g change q (finite.get groups g) refl) ∙ is)

-- ---- who joins and who leaves a group

pub has-joins : (g : List ℕ) (kind : MemberKind) (name : List ℕ) (m : Membership) (k : MemberKind) (q : List ℕ) → membership.has (joins g kind name m) k q ≡ membership.has m k q
has-joins g kind name m member.User q = refl
has-joins g kind name m member.Client q = refl
has-joins g kind name m member.Group q = is_some-changed m.groups g (joined kind name) q

pub has-leaves : (kind : MemberKind) (name : List ℕ) (m : Membership) (k : MemberKind) (q : List ℕ) → membership.has (leaves kind name m) k q ≡ membership.has m k q
has-leaves kind name m member.User q = refl
has-leaves kind name m member.Client q = refl
has-leaves kind name m member.Group q = is_some-map_values (left kind name) nat_list_cmp_total m.groups q

-- whoever is among the members was, or is the one who joined
joined_was : (kind : MemberKind) (name : List ℕ) (members : Members) (k : MemberKind) (q : List ℕ) → has_member k q (joined kind name members) ≡ true
    → (has_member k q members ≡ true) ⊎ ((k ≡ kind) × (q ≡ name))
joined_was member.User name members member.User q is = elim (put_was members.users name q is) [ inl was ↦ inl was | inr same ↦ inr (refl, same) ]
joined_was member.User name members member.Client q is = inl is
joined_was member.User name members member.Group q is = inl is
joined_was member.Client name members member.User q is = inl is
joined_was member.Client name members member.Client q is = elim (put_was members.clients name q is) [ inl was ↦ inl was | inr same ↦ inr (refl, same) ]
joined_was member.Client name members member.Group q is = inl is
joined_was member.Group name members member.User q is = inl is
joined_was member.Group name members member.Client q is = inl is
joined_was member.Group name members member.Group q is = elim (put_was members.groups name q is) [ inl was ↦ inl was | inr same ↦ inr (refl, same) ]

-- another than the one of this kind and name
abbrev pub IsOther : MemberKind → List ℕ → MemberKind → List ℕ → Type 0
IsOther kind name k q = k ≡ kind → q ≡ name → ⊥

-- whoever is left among the members was there, and isn't the one who left
left_was : (kind : MemberKind) (name : List ℕ) (members : Members) (k : MemberKind) (q : List ℕ) → has_member k q (left kind name members) ≡ true
    → (has_member k q members ≡ true) × IsOther kind name k q
left_was member.User name members member.User q is = let had = left_had members.users name q is in (had.0, λ kind same. had.1 same)
left_was member.User name members member.Client q is = (is, λ kind same. cc)
left_was member.User name members member.Group q is = (is, λ kind same. cc)
left_was member.Client name members member.User q is = (is, λ kind same. cc)
left_was member.Client name members member.Client q is = let had = left_had members.clients name q is in (had.0, λ kind same. had.1 same)
left_was member.Client name members member.Group q is = (is, λ kind same. cc)
left_was member.Group name members member.User q is = (is, λ kind same. cc)
left_was member.Group name members member.Client q is = (is, λ kind same. cc)
left_was member.Group name members member.Group q is = let had = left_had members.groups name q is in (had.0, λ kind same. had.1 same)

-- ---- who comes to an organisation

-- a group has this member
abbrev pub IsIn : Membership → List ℕ → MemberKind → List ℕ → Type 0
IsIn m g k q = (members : Members) × (finite.get m.groups g ≡ Some members) × (has_member k q members ≡ true)

pub record Comes (kind : MemberKind) (name : List ℕ) (m new : Membership) : Type 0 where
  pub grows : (k : MemberKind) (q : List ℕ) → membership.has m k q ≡ true → membership.has new k q ≡ true
  pub there : membership.has new kind name ≡ true
  pub was : (k : MemberKind) (q : List ℕ) → membership.has new k q ≡ true → (membership.has m k q ≡ true) ⊎ ((k ≡ kind) × (q ≡ name))
  pub members : (g : List ℕ) (k : MemberKind) (q : List ℕ) → IsIn new g k q → IsIn m g k q ⊎ ((k ≡ kind) × (q ≡ name))

-- whoever is in a group that somebody joined was, or is the one who joined
in_joined : (g : List ℕ) (kind : MemberKind) (name : List ℕ) (m : Membership) (at : List ℕ) (k : MemberKind) (q : List ℕ) → IsIn (joins g kind name m) at k q
    → IsIn m at k q ⊎ ((k ≡ kind) × (q ≡ name))
in_joined g kind name m at k q (members, found, is) =
    elim (found_changed m.groups g (joined kind name) at members found) [
      | inl was ↦ inl (members, was, is)
      | inr (old, was, same) ↦
          elim (joined_was kind name old k q (subst (λ (x : Members). has_member k q x ≡ true) same is)) [
            | inl had ↦ inl (old, was, had)
            | inr new ↦ inr new
          ]
    ]

user_grows : (name : List ℕ) (m : Membership) (k : MemberKind) (q : List ℕ) → membership.has m k q ≡ true → membership.has (with_user name m) k q ≡ true
user_grows name m member.User q is = put_grows m.users name q is
user_grows name m member.Client q is = is
user_grows name m member.Group q is = is

user_was : (name : List ℕ) (m : Membership) (k : MemberKind) (q : List ℕ) → membership.has (with_user name m) k q ≡ true → (membership.has m k q ≡ true) ⊎ ((k ≡ member.User) × (q ≡ name))
user_was name m member.User q is = elim (put_was m.users name q is) [ inl was ↦ inl was | inr same ↦ inr (refl, same) ]
user_was name m member.Client q is = inl is
user_was name m member.Group q is = inl is

pub comes_user : (g name : List ℕ) (m : Membership) → Comes member.User name m (joins g member.User name (with_user name m))
comes_user g name m = record {
  grows = λ k q is. has-joins g member.User name (with_user name m) k q ∙ user_grows name m k q is;
  there = put_there m.users name;
  was = λ k q is. user_was name m k q (sym (has-joins g member.User name (with_user name m) k q) ∙ is);
  members = λ at k q is. in_joined g member.User name (with_user name m) at k q is;
}

client_grows : (name : List ℕ) (m : Membership) (k : MemberKind) (q : List ℕ) → membership.has m k q ≡ true → membership.has (with_client name m) k q ≡ true
client_grows name m member.User q is = is
client_grows name m member.Client q is = put_grows m.clients name q is
client_grows name m member.Group q is = is

client_was : (name : List ℕ) (m : Membership) (k : MemberKind) (q : List ℕ) → membership.has (with_client name m) k q ≡ true → (membership.has m k q ≡ true) ⊎ ((k ≡ member.Client) × (q ≡ name))
client_was name m member.User q is = inl is
client_was name m member.Client q is = elim (put_was m.clients name q is) [ inl was ↦ inl was | inr same ↦ inr (refl, same) ]
client_was name m member.Group q is = inl is

pub comes_client : (g name : List ℕ) (m : Membership) → Comes member.Client name m (joins g member.Client name (with_client name m))
comes_client g name m = record {
  grows = λ k q is. has-joins g member.Client name (with_client name m) k q ∙ client_grows name m k q is;
  there = put_there m.clients name;
  was = λ k q is. client_was name m k q (sym (has-joins g member.Client name (with_client name m) k q) ∙ is);
  members = λ at k q is. in_joined g member.Client name (with_client name m) at k q is;
}

-- an organisation with this group in place of what was there
abbrev pub put_group : List ℕ → Members → Membership → Membership
put_group name members m = with_groups (finite.insert m.groups name members) m

there_put : (b : Bool) (members : Members) (found : Option Members) → is_some found ≡ true → is_some (cond b (Some members) found) ≡ true
there_put true members found is = refl
there_put false members found is = is

was_put : (b : Bool) (members : Members) (found : Option Members) → is_some (cond b (Some members) found) ≡ true → (b ≡ true) ⊎ (is_some found ≡ true)
was_put true members found is = inl refl
was_put false members found is = inr is

pub group_grows : (name : List ℕ) (members : Members) (m : Membership) (k : MemberKind) (q : List ℕ) → membership.has m k q ≡ true → membership.has (put_group name members m) k q ≡ true
group_grows name members m member.User q is = is
group_grows name members m member.Client q is = is
group_grows name members m member.Group q is = ap is_some (get-put m.groups name members q) ∙ there_put (bytes_eq q name) members (finite.get m.groups q) is

pub group_was : (name : List ℕ) (members : Members) (m : Membership) (k : MemberKind) (q : List ℕ) → membership.has (put_group name members m) k q ≡ true
    → (membership.has m k q ≡ true) ⊎ ((k ≡ member.Group) × (q ≡ name))
group_was name members m member.User q is = inl is
group_was name members m member.Client q is = inl is
group_was name members m member.Group q is =
    elim (was_put (bytes_eq q name) members (finite.get m.groups q) (sym (ap is_some (get-put m.groups name members q)) ∙ is)) [
      | inl same ↦ inr (refl, same_name q name same)
      | inr was ↦ inl was
    ]

pub group_there : (name : List ℕ) (members : Members) (m : Membership) → membership.has (put_group name members m) member.Group name ≡ true
group_there name members m = ap is_some (get-put m.groups name members name) ∙ ap (λ b. is_some (cond b (Some members) (finite.get m.groups name))) (itself name)

-- a group that is found is the one that was put in, or was there
found_put : (name : List ℕ) (members : Members) (groups : GroupsByName) (at : List ℕ) (found : Members) (b : Bool) → bytes_eq at name ≡ b
    → cond b (Some members) (finite.get groups at) ≡ Some found → (members ≡ found) ⊎ (finite.get groups at ≡ Some found)
found_put name members groups at found true same is = inl (same_Some members found is)
found_put name members groups at found false other is = inr is

pub in_put : (name : List ℕ) (members : Members) (m : Membership) (at : List ℕ) (k : MemberKind) (q : List ℕ) → IsIn (put_group name members m) at k q
    → (has_member k q members ≡ true) ⊎ IsIn m at k q
in_put name members m at k q (found, is, has_it) =
    elim (found_put name members m.groups at found (bytes_eq at name) refl (sym (get-put m.groups name members at) ∙ is)) [
      | inl same ↦ inl (subst (λ (x : Members). has_member k q x ≡ true) (sym same) has_it)
      | inr was ↦ inr (found, was, has_it)
    ]

pub nobody_in : (k : MemberKind) (q : List ℕ) → has_member k q no_members ≡ true → ⊥
nobody_in member.User q is = cc (sym is ∙ set.contains-empty _ q)
nobody_in member.Client q is = cc (sym is ∙ set.contains-empty _ q)
nobody_in member.Group q is = cc (sym is ∙ set.contains-empty _ q)

pub comes_group : (name : List ℕ) (m : Membership) → Comes member.Group name m (put_group name no_members m)
comes_group name m = record {
  grows = λ k q is. group_grows name no_members m k q is;
  there = group_there name no_members m;
  was = λ k q is. group_was name no_members m k q is;
  members = λ at k q is. elim (in_put name no_members m at k q is) [ inl nobody ↦ absurd (nobody_in k q nobody) | inr was ↦ inl was ];
}

-- ---- who goes

pub record Goes (kind : MemberKind) (name : List ℕ) (m new : Membership) : Type 0 where
  pub stays : (k : MemberKind) (q : List ℕ) → membership.has m k q ≡ true → IsOther kind name k q → membership.has new k q ≡ true
  pub had : (k : MemberKind) (q : List ℕ) → membership.has new k q ≡ true → membership.has m k q ≡ true
  pub members : (g : List ℕ) (k : MemberKind) (q : List ℕ) → IsIn new g k q → IsIn m g k q × IsOther kind name k q

-- whoever is in a group that somebody left was in it, and is another
in_left : (kind : MemberKind) (name : List ℕ) (m : Membership) (at : List ℕ) (k : MemberKind) (q : List ℕ) → IsIn (leaves kind name m) at k q → IsIn m at k q × IsOther kind name k q
in_left kind name m at k q (members, found, is) =
    let old = mapped (left kind name) (finite.get m.groups at) members (sym (get-map_values (left kind name) nat_list_cmp_total m.groups at) ∙ found) in
    let was = left_was kind name old.0 k q (subst (λ (x : Members). has_member k q x ≡ true) old.2 is) in
    ((old.0, old.1, was.0), was.1)

user_stays : (name : List ℕ) (m : Membership) (k : MemberKind) (q : List ℕ) → membership.has m k q ≡ true → IsOther member.User name k q → membership.has (without_user name m) k q ≡ true
user_stays name m member.User q is other = left_stays m.users name q is (other refl)
user_stays name m member.Client q is other = is
user_stays name m member.Group q is other = is

user_had : (name : List ℕ) (m : Membership) (k : MemberKind) (q : List ℕ) → membership.has (without_user name m) k q ≡ true → membership.has m k q ≡ true
user_had name m member.User q is = (left_had m.users name q is).0
user_had name m member.Client q is = is
user_had name m member.Group q is = is

pub goes_user : (name : List ℕ) (m : Membership) → Goes member.User name m (leaves member.User name (without_user name m))
goes_user name m = record {
  stays = λ k q is other. has-leaves member.User name (without_user name m) k q ∙ user_stays name m k q is other;
  had = λ k q is. user_had name m k q (sym (has-leaves member.User name (without_user name m) k q) ∙ is);
  members = λ at k q is. in_left member.User name (without_user name m) at k q is;
}

client_stays : (name : List ℕ) (m : Membership) (k : MemberKind) (q : List ℕ) → membership.has m k q ≡ true → IsOther member.Client name k q → membership.has (without_client name m) k q ≡ true
client_stays name m member.User q is other = is
client_stays name m member.Client q is other = left_stays m.clients name q is (other refl)
client_stays name m member.Group q is other = is

client_had : (name : List ℕ) (m : Membership) (k : MemberKind) (q : List ℕ) → membership.has (without_client name m) k q ≡ true → membership.has m k q ≡ true
client_had name m member.User q is = is
client_had name m member.Client q is = (left_had m.clients name q is).0
client_had name m member.Group q is = is

pub goes_client : (name : List ℕ) (m : Membership) → Goes member.Client name m (leaves member.Client name (without_client name m))
goes_client name m = record {
  stays = λ k q is other. has-leaves member.Client name (without_client name m) k q ∙ client_stays name m k q is other;
  had = λ k q is. client_had name m k q (sym (has-leaves member.Client name (without_client name m) k q) ∙ is);
  members = λ at k q is. in_left member.Client name (without_client name m) at k q is;
}

-- an organisation without this group
abbrev pub take_group : List ℕ → Membership → Membership
take_group name m = with_groups (finite.remove m.groups name) m

was_left : (b : Bool) (found : Option Members) → is_some (cond b None found) ≡ true → (b ≡ false) × (is_some found ≡ true)
was_left true found is = cc
was_left false found is = (refl, is)

found_left : (b : Bool) (found : Option Members) (members : Members) → cond b None found ≡ Some members → found ≡ Some members
found_left true found members is = cc
found_left false found members is = is

is_left : (b : Bool) (found : Option Members) → is_some found ≡ true → (b ≡ true → ⊥) → is_some (cond b None found) ≡ true
is_left true found is other = absurd (other refl)
is_left false found is other = is

group_stays : (name : List ℕ) (m : Membership) (k : MemberKind) (q : List ℕ) → membership.has m k q ≡ true → IsOther member.Group name k q → membership.has (take_group name m) k q ≡ true
group_stays name m member.User q is other = is
group_stays name m member.Client q is other = is
group_stays name m member.Group q is other =
    ap is_some (get-left m.groups name q) ∙ is_left (bytes_eq q name) (finite.get m.groups q) is (λ same. other refl (same_name q name same))

group_had : (name : List ℕ) (m : Membership) (k : MemberKind) (q : List ℕ) → membership.has (take_group name m) k q ≡ true → membership.has m k q ≡ true
group_had name m member.User q is = is
group_had name m member.Client q is = is
group_had name m member.Group q is = (was_left (bytes_eq q name) (finite.get m.groups q) (sym (ap is_some (get-left m.groups name q)) ∙ is)).1

in_taken : (name : List ℕ) (m : Membership) (at : List ℕ) (k : MemberKind) (q : List ℕ) → IsIn (take_group name m) at k q → IsIn m at k q
in_taken name m at k q (members, found, is) = (members, found_left (bytes_eq at name) (finite.get m.groups at) members (sym (get-left m.groups name at) ∙ found), is)

pub goes_group : (name : List ℕ) (m : Membership) → Goes member.Group name m (leaves member.Group name (take_group name m))
goes_group name m = record {
  stays = λ k q is other. has-leaves member.Group name (take_group name m) k q ∙ group_stays name m k q is other;
  had = λ k q is. group_had name m k q (sym (has-leaves member.Group name (take_group name m) k q) ∙ is);
  members = λ at k q is. let was = in_left member.Group name (take_group name m) at k q is in (in_taken name m at k q was.0, was.1);
}
