-- What groups list stays where users and clients come and go.
use Rattle.std.proofs.Common.{◌≡◌, ◌*◌, ◌≤◌, Bool, true, false, cond, ℕ, List, [], ◌∷◌, length, Some, is_some, bytes_eq, true≢false, refl, sym, ap, subst, ◌∙◌, le_trans}
use Rattle.std.proofs.lemmas.List.{length-map}
use Rattle.std.proofs.lemmas.Option.{same_Some}
use Rattle.std.proofs.Math.Nat.{mul-le-mul_left, mul-le-mul_right}
use Rattle.std.specs.Map.{lookup, set_value}
use Rattle.indexmap.specs.IndexMap.{insert_entry}
use Rattle.membership.specs.declared.member_kind.MemberKind.{MemberKind}
use Rattle.membership.specs.declared.member_kind.MemberKind.TheVariants.{User, Client, Group}
use Rattle.membership.specs.Changes.{joined, left}
use Rattle.membership.specs.Leading.{TellsLeading, Tells, Listing, listing, KeepsLists, UnlessGroup}
use Rattle.membership.specs.Members.{Members}
use Rattle.membership.specs.Rooms.{KeptGroup, Entries}
use Rattle.membership.specs.TextSets.{Names}

-- the groups within a group
abbrev groups_in : KeptGroup → Names
groups_in g = g.members.groups

-- one group is written, which lists what it did
pub lists_written : (test : List ℕ → Bool) (es : Entries) (part now : KeptGroup) → Some part ≡ lookup test es → now.members.groups ≡ part.members.groups → KeepsLists es (set_value test es now)
lists_written test [] part now found same = refl
lists_written test (e ∷ es) part now found same = by (test e.0) found (λ is. lists_written test es part now is same)
  where
    by : (b : Bool) → Some part ≡ cond b (Some e.1) (lookup test es) → (Some part ≡ lookup test es → KeepsLists es (set_value test es now)) → KeepsLists (e ∷ es) (cond b ((e.0, now) ∷ es) (e ∷ set_value test es now))
    by true is rest = λ i. (e.0, (same ∙ ap groups_in (same_Some part e.1 is)) i) ∷ listing es
    by false is rest = λ i. (e.0, e.1.members.groups) ∷ rest is i

-- one is put in another's place, which listed what it does
pub lists_inserted : (name : List ℕ) (es : Entries) (part now : KeptGroup) → Some part ≡ lookup (bytes_eq name) es → part.members.groups ≡ now.members.groups → KeepsLists es (insert_entry bytes_eq es name now)
lists_inserted name [] part now found same = absurd (true≢false (ap is_some found))
lists_inserted name (e ∷ es) part now found same = by (bytes_eq name e.0) found (λ is. lists_inserted name es part now is same)
  where
    by : (b : Bool) → Some part ≡ cond b (Some e.1) (lookup (bytes_eq name) es) → (Some part ≡ lookup (bytes_eq name) es → KeepsLists es (insert_entry bytes_eq es name now))
        → KeepsLists (e ∷ es) (cond b ((e.0, now) ∷ es) (e ∷ insert_entry bytes_eq es name now))
    by true is rest = λ i. (e.0, (sym same ∙ ap groups_in (same_Some part e.1 is)) i) ∷ listing es
    by false is rest = λ i. (e.0, e.1.members.groups) ∷ rest is i

-- a fact of kinds other than groups
pub unless_group : (kind : MemberKind) (P Q : Type 0) → (P → Q) → UnlessGroup kind P → UnlessGroup kind Q
unless_group User P Q f p = f p
unless_group Client P Q f p = f p
unless_group Group P Q f p = tt

-- who joins or leaves leaves what the group lists
pub joined_lists : (kind : MemberKind) (name : List ℕ) (members : Members) → UnlessGroup kind ((joined kind name members).groups ≡ members.groups)
joined_lists User name members = refl
joined_lists Client name members = refl
joined_lists Group name members = tt

pub left_lists : (kind : MemberKind) (name : List ℕ) → UnlessGroup kind ((members : Members) → (left kind name members).groups ≡ members.groups)
left_lists User name = λ members. refl
left_lists Client name = λ members. refl
left_lists Group name = tt

-- the same lists have the same number
pub lists_length : (old new : Entries) → KeepsLists old new → length new ≡ length old
lists_length old new same = sym (length-map new _) ∙ ap length same ∙ length-map old _

-- and what leads to what stays
pub Tells-kept : (old new : Entries) (cells : List Bool) → KeepsLists old new → Tells old cells → Tells new cells
Tells-kept old new cells same tells =
    subst (λ n. TellsLeading n (listing new) cells) (sym (lists_length old new same)) (subst (λ (groups : Listing). TellsLeading (length old) groups cells) (sym same) tells)

-- a square of fewer rows has room
pub square_fits : (rows most capacity : ℕ) → rows ≤ most → most * most ≤ capacity → rows * rows ≤ capacity
square_fits rows most capacity fits room = le_trans (le_trans (mul-le-mul_right rows fits) (mul-le-mul_left most fits)) room
