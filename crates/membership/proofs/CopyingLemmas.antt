-- A copy of groups.
use Rattle.std.proofs.Common.{◌≡◌, Bool, true, false, cond, ℕ, List, [], ◌∷◌, Option, None, Some, bytes_eq, refl, sym, ap, ◌∙◌}
use Rattle.std.specs.Cmp.Lexicographic.{nat_list_cmp_total, bytes_decides}
use Rattle.std.specs.FinMap as finite
use Rattle.std.specs.List.{AllByRecursion, IsDistinct}
use Rattle.std.specs.Map.{keys_of, lookup}
use Rattle.std.specs.Option.{option_or}
use Rattle.membership.specs.Members.{Members, GroupsByName}
use Rattle.membership.specs.Rooms.{KeptGroup, Entries, groups_seen}
use Rattle.membership.proofs.TextSetLemmas.{tied}
use Rattle.membership.proofs.LeavingLemmas.{members_at}
use Rattle.membership.proofs.RoomLemmas.{get-shown, same_shown}

-- what is left of the whole, and else what was copied, is the whole
pub record Copying (whole : Entries) (made : GroupsByName) (left : Entries) : Type 0 where
  pub same : (q : List ℕ) → option_or (members_at (lookup (bytes_eq q) left)) (finite.get made q) ≡ finite.get (groups_seen whole) q
  pub distinct : IsDistinct bytes_eq (keys_of left)

or-none : {X : Type 0} (o : Option X) → option_or o None ≡ o
or-none None = refl
or-none (Some x) = refl

-- nothing is copied yet
pub Copying-none : (whole made : Entries) → made ≡ [] → IsDistinct bytes_eq (keys_of whole) → Copying whole (groups_seen made) whole
Copying-none whole made empty distinct = record {
  same = λ q.
      ap (λ (es : Entries). option_or (members_at (lookup (bytes_eq q) whole)) (finite.get (groups_seen es) q)) empty
      ∙ ap (option_or (members_at (lookup (bytes_eq q) whole))) (get-shown (λ g. g.members) [] q)
      ∙ or-none (members_at (lookup (bytes_eq q) whole))
      ∙ sym (get-shown (λ g. g.members) whole q);
  distinct = distinct;
}

-- a name that isn't among others
absent : (name : List ℕ) (es : Entries) → AllByRecursion (λ k. bytes_eq name k ≡ false) (keys_of es) → lookup (bytes_eq name) es ≡ None
absent name [] apart = refl
absent name (e ∷ es) apart = ap (λ b. cond b (Some e.1) (lookup (bytes_eq name) es)) apart.0 ∙ absent name es apart.1

-- one group more is copied
pub Copying-more : (whole : Entries) (made now : GroupsByName) (name : List ℕ) (group : KeptGroup) (rest : Entries) (copied : List ℕ) (members : Members)
    → Copying whole made ((name, group) ∷ rest) → copied ≡ name → members ≡ group.members → now ≡ finite.insert made copied members → Copying whole now rest
unfolding IsDistinct
Copying-more whole made now name group rest copied members before same_name same_members inserted = record {
  same = λ q. now_at q (bytes_eq q name) refl ∙ before.same q;
  distinct = before.distinct.1;
}
  where
    get-now : (q : List ℕ) → finite.get now q ≡ cond (bytes_eq q name) (Some group.members) (finite.get made q)
    get-now q =
        ap (λ (m : GroupsByName). finite.get m q) inserted
        ∙ finite.get-insert nat_list_cmp_total made copied members q
        ∙ (λ i. cond (tied q (same_name i) i) (Some (same_members i)) (finite.get made q))

    now_at : (q : List ℕ) (b : Bool) → bytes_eq q name ≡ b
        → option_or (members_at (lookup (bytes_eq q) rest)) (finite.get now q) ≡ option_or (members_at (cond (bytes_eq q name) (Some group) (lookup (bytes_eq q) rest))) (finite.get made q)
    now_at q true here =
        let none : lookup (bytes_eq q) rest ≡ None = ap (λ k. lookup (bytes_eq k) rest) ((bytes_decides q name).0 here) ∙ absent name rest before.distinct.0 in
        (λ i. option_or (members_at (none i)) ((get-now q ∙ ap (λ b. cond b (Some group.members) (finite.get made q)) here) i))
        ∙ ap (λ b. option_or (members_at (cond b (Some group) (lookup (bytes_eq q) rest))) (finite.get made q)) (sym here)
    now_at q false here =
        ap (option_or (members_at (lookup (bytes_eq q) rest))) (get-now q ∙ ap (λ b. cond b (Some group.members) (finite.get made q)) here)
        ∙ ap (λ b. option_or (members_at (cond b (Some group) (lookup (bytes_eq q) rest))) (finite.get made q)) (sym here)

-- all are copied
pub Copying-all : (whole left : Entries) (made : GroupsByName) → Copying whole made left → left ≡ [] → made ≡ groups_seen whole
Copying-all whole left made copied none =
    same_shown (λ g. g.members) made (groups_seen whole) (λ q.
    ap (λ (es : Entries). option_or (members_at (lookup (bytes_eq q) es)) (finite.get made q)) (sym none) ∙ copied.same q)
