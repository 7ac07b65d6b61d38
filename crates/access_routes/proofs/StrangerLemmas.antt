-- Where no stranger was found, everyone who is named is there.
use Rattle.std.proofs.Common.{◌≡◌, ℕ, ◌+◌, List, [], ◌∷◌, length, Bool, true, false, cond, not, nat_lt, ◌||◌, ◌⊎◌, inl, inr, Option, Some, None, option_map, position, bytes_eq, refl, sym, ap, subst, ◌∙◌, arith}
use Rattle.std.proofs.lemmas.Bool.{or_parts}
use Rattle.std.specs.Cmp.Lexicographic.{nat_list_cmp_total}
use Rattle.std.specs.FinSet as set
use Rattle.std.specs.List.{list_any, position_or_len}
use Rattle.std.specs.Option.{option_or}
use Rattle.doc_tree.specs.Text.{text_cmp}
use Rattle.membership.specs.declared.member_kind.MemberKind.{MemberKind}
use Rattle.membership.specs.declared.member_kind.MemberKind.TheVariants as member
use Rattle.membership.specs.Lists.{members_of}
use Rattle.membership.specs.Members.{Membership}
use Rattle.membership.specs.Actors as membership
use Rattle.membership.specs.TextSets.{lists}
use Rattle.membership.proofs.TextSetLemmas.{any-tied}
use Rattle.access_lists.specs.declared.acl.Acl.{Acl}
use Rattle.access_lists.specs.declared.acl.Entry.{Entry}
use Rattle.access_lists.specs.declared.strangers.Stranger.{Stranger}
use Rattle.access_lists.specs.declared.strangers.Stranger.TheVariants as stranger
use Rattle.access_lists.specs.declared.perm.Perm.{Perm}
use Rattle.access_lists.specs.declared.perm.Perm.TheVariants as permission
use Rattle.access_lists.specs.Acls.{entry_of}
use Rattle.access_lists.specs.Strangers.{first_stranger}
use Rattle.doc_tree.specs.Doc.{Doc}
use Rattle.org_core.proofs.ListedLemmas.{NamesKnown}
use Rattle.org_core.proofs.MembershipLemmas.{either, same_name}
use Rattle.org_core.specs.AccessConditions.{has_member}
use Rattle.org_requests.specs.Refusals.{refuses, first_some}
use Rattle.org_requests.specs.declared.refusals.Refusal.{Refusal}
use Rattle.access_routes.specs.AccessLists.{stranger_told, with_entry}
use Rattle.access_routes.specs.GroupRoutes.{has_stranger, sent, stranger_among, stranger_refusal}

-- ---- the first place at which a test passes

later_lt : (n : ℕ) (x : List ℕ) (xs : List (List ℕ)) → nat_lt (1 + n) (length (x ∷ xs)) ≡ nat_lt n (length xs)
later_lt n x xs = grind arith

first_lt : (x : List ℕ) (xs : List (List ℕ)) → nat_lt 0 (length (x ∷ xs)) ≡ true
first_lt x xs = grind arith

module _ (test : List ℕ → Bool) where
  step_passes : (x : List ℕ) (xs : List (List ℕ)) (b : Bool) → test x ≡ b → (nat_lt (position_or_len test xs) (length xs) ≡ list_any test xs)
      → nat_lt (position_or_len test (x ∷ xs)) (length (x ∷ xs)) ≡ (b || list_any test xs)
  step_passes x xs true is rest = ap (λ b. nat_lt (cond (not b) (1 + position_or_len test xs) 0) (length (x ∷ xs))) is ∙ first_lt x xs
  step_passes x xs false is rest = ap (λ b. nat_lt (cond (not b) (1 + position_or_len test xs) 0) (length (x ∷ xs))) is ∙ later_lt (position_or_len test xs) x xs ∙ rest

  -- there is a first place where it passes at some
  passes : (xs : List (List ℕ)) → nat_lt (position_or_len test xs) (length xs) ≡ list_any test xs
  passes [] = grind arith
  passes (x ∷ xs) = step_passes x xs (test x) refl (passes xs) ∙ refl

  no_place : (b : Bool) (n : ℕ) → cond b (Some n) None ≡ None → b ≡ false
  no_place true n is = cc
  no_place false n is = refl

  -- where there is none, it passes at none
  none_passes : (xs : List (List ℕ)) → position test xs ≡ None → list_any test xs ≡ false
  none_passes xs is = sym (passes xs) ∙ no_place (nat_lt (position_or_len test xs) (length xs)) (position_or_len test xs) is

  fails_at : (xs : List (List ℕ)) (q : List ℕ) → list_any test xs ≡ false → lists xs q ≡ true → test q ≡ false
  fails_at [] q none is = cc
  fails_at (x ∷ xs) q none is =
      let parts = or_parts (test x) (list_any test xs) none in
      elim (either (bytes_eq q x) (lists xs q) is) [
        | inl same ↦ subst (λ (n : List ℕ). test n ≡ false) (sym (same_name q x same)) parts.0
        | inr rest ↦ fails_at xs q parts.1 rest
      ]

passed : (b : Bool) → not b ≡ false → b ≡ true
passed true is = refl
passed false is = cc

-- ---- an entry without strangers

not_told : (found : Option Stranger) → stranger_told found ≡ None → found ≡ None
not_told None is = refl
not_told (Some (stranger.Actor position)) is = cc
not_told (Some (stranger.Group position)) is = cc

none_mapped : {X Y : Type 0} (f : X → Y) (found : Option X) → option_map f found ≡ None → found ≡ None
none_mapped f None is = refl
none_mapped f (Some x) is = cc

module _ {X : Type 0} where
  neither_found : (one other : Option X) → option_or one other ≡ None → (one ≡ None) × (other ≡ None)
  neither_found None other is = (refl, is)
  neither_found (Some x) other is = cc

pub record EntryKnown (m : Membership) (entry : Entry) : Type 0 where
  pub actors : (name : List ℕ) → lists entry.actors name ≡ true → membership.is_actor m name ≡ true
  pub groups : (name : List ℕ) → lists entry.groups name ≡ true → membership.has m member.Group name ≡ true

pub entry_known : (m : Membership) (entry : Entry) → stranger_told (first_stranger m entry) ≡ None → EntryKnown m entry
entry_known m entry is =
    let parts = neither_found _ _ (not_told (first_stranger m entry) is) in
    record {
      actors = λ name listed. passed (membership.is_actor m name)
          (fails_at (λ n. not (membership.is_actor m n)) entry.actors name (none_passes (λ n. not (membership.is_actor m n)) entry.actors (none_mapped stranger.Actor _ parts.0)) listed);
      groups = λ name listed. passed (membership.has m member.Group name)
          (fails_at (λ n. not (membership.has m member.Group n)) entry.groups name (none_passes (λ n. not (membership.has m member.Group n)) entry.groups (none_mapped stranger.Group _ parts.1)) listed);
    }

-- each entry of a list in which one was replaced is that one, or as it was
with_entry_at : (one : Perm) (entry : Entry) (list : Acl) (p : Perm) → (entry_of p (with_entry one entry list) ≡ entry) ⊎ (entry_of p (with_entry one entry list) ≡ entry_of p list)
with_entry_at permission.Create entry list permission.Create = inl refl
with_entry_at permission.Create entry list permission.Read = inr refl
with_entry_at permission.Create entry list permission.Update = inr refl
with_entry_at permission.Create entry list permission.Delete = inr refl
with_entry_at permission.Create entry list permission.Grant = inr refl
with_entry_at permission.Read entry list permission.Create = inr refl
with_entry_at permission.Read entry list permission.Read = inl refl
with_entry_at permission.Read entry list permission.Update = inr refl
with_entry_at permission.Read entry list permission.Delete = inr refl
with_entry_at permission.Read entry list permission.Grant = inr refl
with_entry_at permission.Update entry list permission.Create = inr refl
with_entry_at permission.Update entry list permission.Read = inr refl
with_entry_at permission.Update entry list permission.Update = inl refl
with_entry_at permission.Update entry list permission.Delete = inr refl
with_entry_at permission.Update entry list permission.Grant = inr refl
with_entry_at permission.Delete entry list permission.Create = inr refl
with_entry_at permission.Delete entry list permission.Read = inr refl
with_entry_at permission.Delete entry list permission.Update = inr refl
with_entry_at permission.Delete entry list permission.Delete = inl refl
with_entry_at permission.Delete entry list permission.Grant = inr refl
with_entry_at permission.Grant entry list permission.Create = inr refl
with_entry_at permission.Grant entry list permission.Read = inr refl
with_entry_at permission.Grant entry list permission.Update = inr refl
with_entry_at permission.Grant entry list permission.Delete = inr refl
with_entry_at permission.Grant entry list permission.Grant = inl refl

pub with_entry_known : (m : Membership) (one : Perm) (entry : Entry) (list : Acl) → EntryKnown m entry → NamesKnown m list → NamesKnown m (with_entry one entry list)
with_entry_known m one entry list known all = record {
  actors = λ p name listed. elim (with_entry_at one entry list p) [
    | inl same ↦ known.actors name (subst (λ (e : Entry). lists e.actors name ≡ true) same listed)
    | inr same ↦ all.actors p name (subst (λ (e : Entry). lists e.actors name ≡ true) same listed)
  ];
  groups = λ p name listed. elim (with_entry_at one entry list p) [
    | inl same ↦ known.groups name (subst (λ (e : Entry). lists e.groups name ≡ true) same listed)
    | inr same ↦ all.groups p name (subst (λ (e : Entry). lists e.groups name ≡ true) same listed)
  ];
}

-- ---- a group without strangers

no_refusal : (refusal : Refusal) (b : Bool) → refuses refusal b ≡ None → b ≡ false
no_refusal refusal true is = cc
no_refusal refusal false is = refl

first_none : (one : Option Refusal) (rest : List (Option Refusal)) → first_some (one ∷ rest) ≡ None → (one ≡ None) × (first_some rest ≡ None)
first_none None rest is = (refl, is)
first_none (Some refusal) rest is = cc

no_stranger : (kind : MemberKind) (names : List (List ℕ)) (m : Membership) (q : List ℕ) → has_stranger kind names m ≡ false → lists names q ≡ true → membership.has m kind q ≡ true
no_stranger kind names m q none listed = passed (membership.has m kind q) (fails_at (λ n. not (membership.has m kind n)) names q none listed)

among : (names : List (List ℕ)) (q : List ℕ) → set.contains (set.from_list {R = text_cmp} names) q ≡ true → lists names q ≡ true
among names q is = sym (set.contains-from_list nat_list_cmp_total names q ∙ any-tied q names) ∙ is

-- whoever is among the members that a body lists is there
pub sent_known : (group : Doc) (m : Membership) (kind : MemberKind) (q : List ℕ) → stranger_refusal group m ≡ None
    → has_member kind q (members_of (sent member.User group) (sent member.Client group) (sent member.Group group)) ≡ true → membership.has m kind q ≡ true
sent_known group m member.User q is listed =
    let users = first_none (stranger_among member.User group m) _ is in
    no_stranger member.User (sent member.User group) m q (no_refusal _ _ users.0) (among (sent member.User group) q listed)
sent_known group m member.Client q is listed =
    let users = first_none (stranger_among member.User group m) _ is in
    let clients = first_none (stranger_among member.Client group m) _ users.1 in
    no_stranger member.Client (sent member.Client group) m q (no_refusal _ _ clients.0) (among (sent member.Client group) q listed)
sent_known group m member.Group q is listed =
    let users = first_none (stranger_among member.User group m) _ is in
    let clients = first_none (stranger_among member.Client group m) _ users.1 in
    let groups = first_none (stranger_among member.Group group m) _ clients.1 in
    no_stranger member.Group (sent member.Group group) m q (no_refusal _ _ groups.0) (among (sent member.Group group) q listed)
