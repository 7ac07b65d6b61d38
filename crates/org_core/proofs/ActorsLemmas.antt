-- Who is an actor, and names that are told apart, when somebody comes or goes.
use Rattle.std.proofs.Common.{◌≡◌, ℕ, List, Bool, true, false, ◌&&◌, ◌||◌, inl, inr, bytes_eq, refl, sym, subst, ◌∙◌}
use Rattle.std.proofs.lemmas.Bool.{or_parts, or_left, or_right}
use Rattle.membership.specs.declared.member_kind.MemberKind.{MemberKind}
use Rattle.membership.specs.declared.member_kind.MemberKind.TheVariants as member
use Rattle.membership.specs.Members.{Membership}
use Rattle.membership.specs.Actors.{operator}
use Rattle.membership.specs.Actors as membership
use Rattle.org_core.specs.AccessConditions.{AreApart}
use Rattle.org_core.proofs.MembershipLemmas.{Comes, Goes, IsOther, either, itself, other_name}

-- ---- actors

is_actor_by : (m new : Membership) (name : List ℕ) → membership.is_actor m name ≡ true → (membership.has m member.User name ≡ true → membership.has new member.User name ≡ true)
    → (membership.has m member.Client name ≡ true → membership.has new member.Client name ≡ true) → membership.is_actor new name ≡ true
is_actor_by m new name is user client =
    elim (either (bytes_eq name operator) _ is) [
      | inl itself ↦ or_left (bytes_eq name operator) _ itself
      | inr person ↦ or_right (bytes_eq name operator) _
          (elim (either (membership.has m member.User name) (membership.has m member.Client name) person) [
            | inl found ↦ or_left (membership.has new member.User name) _ (user found)
            | inr found ↦ or_right (membership.has new member.User name) _ (client found)
          ])
    ]

-- who was an actor is one when somebody came
pub actor_grows : (kind : MemberKind) (name : List ℕ) (m new : Membership) (q : List ℕ) → Comes kind name m new → membership.is_actor m q ≡ true → membership.is_actor new q ≡ true
actor_grows kind name m new q comes is = is_actor_by m new q is (comes.grows member.User q) (comes.grows member.Client q)

-- and when somebody else went
pub actor_stays : (kind : MemberKind) (name : List ℕ) (m new : Membership) (q : List ℕ) → Goes kind name m new → IsOther kind name member.User q → IsOther kind name member.Client q
    → membership.is_actor m q ≡ true → membership.is_actor new q ≡ true
actor_stays kind name m new q goes user client is = is_actor_by m new q is (λ found. goes.stays member.User q found user) (λ found. goes.stays member.Client q found client)

-- ---- names apart

both_not : (a b : Bool) → (a ≡ true → b ≡ true → ⊥) → (a && b) ≡ false
both_not true true never = absurd (never refl refl)
both_not true false never = refl
both_not false b never = refl

not_both : (a b : Bool) → (a && b) ≡ false → a ≡ true → b ≡ true → ⊥
not_both true true never one two = cc
not_both true false never one two = cc
not_both false b never one two = cc

neither : (a b : Bool) → (a ≡ true → ⊥) → (b ≡ true → ⊥) → (a || b) ≡ false
neither true b one two = absurd (one refl)
neither false true one two = absurd (two refl)
neither false false one two = refl

pub is_false : (b : Bool) → b ≡ false → b ≡ true → ⊥
is_false true never is = cc
is_false false never is = cc

-- a name that nobody has
pub record IsFree (m : Membership) (name : List ℕ) : Type 0 where
  pub operator : bytes_eq name operator ≡ false
  pub user : membership.has m member.User name ≡ false
  pub client : membership.has m member.Client name ≡ false

pub is_free : (m : Membership) (name : List ℕ) → membership.is_actor m name ≡ false → IsFree m name
is_free m name is =
    let parts = or_parts (bytes_eq name operator) _ is in
    let people = or_parts (membership.has m member.User name) (membership.has m member.Client name) parts.1 in
    record { operator = parts.0; user = people.0; client = people.1 }

taken_user : (m : Membership) (name q : List ℕ) → IsFree m name → q ≡ name → membership.has m member.User q ≡ true → ⊥
taken_user m name q free same is = is_false (membership.has m member.User name) free.user (subst (λ (n : List ℕ). membership.has m member.User n ≡ true) same is)

taken_client : (m : Membership) (name q : List ℕ) → IsFree m name → q ≡ name → membership.has m member.Client q ≡ true → ⊥
taken_client m name q free same is = is_false (membership.has m member.Client name) free.client (subst (λ (n : List ℕ). membership.has m member.Client n ≡ true) same is)

not_operator : (m : Membership) (name : List ℕ) → IsFree m name → operator ≡ name → ⊥
not_operator m name free same = other_name name operator free.operator (sym same)

-- a person came whose name was free
pub comes_apart : (kind : MemberKind) (name : List ℕ) (m new : Membership) → Comes kind name m new → IsFree m name → AreApart m → AreApart new
comes_apart kind name m new comes free apart = record {
  apart = λ q. both_not (membership.has new member.User q) (membership.has new member.Client q) (λ user client.
      elim (comes.was member.User q user) [
        | inl was ↦
            elim (comes.was member.Client q client) [
              | inl also ↦ not_both _ _ (apart.apart q) was also
              | inr (same_kind, same) ↦ taken_user m name q free same was
            ]
        | inr (is_user, same) ↦
            elim (comes.was member.Client q client) [
              | inl also ↦ taken_client m name q free same also
              | inr (is_client, again) ↦ cc (is_user ∙ sym is_client)
            ]
      ]);
  operator_apart = neither (membership.has new member.User operator) (membership.has new member.Client operator)
      (λ user. elim (comes.was member.User operator user) [
        | inl was ↦ is_false _ (or_parts _ _ apart.operator_apart).0 was
        | inr (kind, same) ↦ not_operator m name free same
      ])
      (λ client. elim (comes.was member.Client operator client) [
        | inl was ↦ is_false _ (or_parts _ _ apart.operator_apart).1 was
        | inr (kind, same) ↦ not_operator m name free same
      ]);
}

-- a group came
pub group_comes_apart : (name : List ℕ) (m new : Membership) → Comes member.Group name m new → AreApart m → AreApart new
group_comes_apart name m new comes apart = record {
  apart = λ q. both_not (membership.has new member.User q) (membership.has new member.Client q) (λ user client.
      elim (comes.was member.User q user) [
        | inl was ↦ elim (comes.was member.Client q client) [ inl also ↦ not_both _ _ (apart.apart q) was also | inr (kind, same) ↦ cc kind ]
        | inr (kind, same) ↦ cc kind
      ]);
  operator_apart = neither (membership.has new member.User operator) (membership.has new member.Client operator)
      (λ user. elim (comes.was member.User operator user) [ inl was ↦ is_false _ (or_parts _ _ apart.operator_apart).0 was | inr (kind, same) ↦ cc kind ])
      (λ client. elim (comes.was member.Client operator client) [ inl was ↦ is_false _ (or_parts _ _ apart.operator_apart).1 was | inr (kind, same) ↦ cc kind ]);
}

-- somebody went
pub goes_apart : (kind : MemberKind) (name : List ℕ) (m new : Membership) → Goes kind name m new → AreApart m → AreApart new
goes_apart kind name m new goes apart = record {
  apart = λ q. both_not (membership.has new member.User q) (membership.has new member.Client q)
      (λ user client. not_both _ _ (apart.apart q) (goes.had member.User q user) (goes.had member.Client q client));
  operator_apart = neither (membership.has new member.User operator) (membership.has new member.Client operator)
      (λ user. is_false _ (or_parts _ _ apart.operator_apart).0 (goes.had member.User operator user))
      (λ client. is_false _ (or_parts _ _ apart.operator_apart).1 (goes.had member.Client operator client));
}
