-- `is_permitted` is the truth value of `Permitted`.
use Rattle.std.proofs.Common.{◌≡◌, ◌↔◌, ◌<◌, inl, inr, Any, Bool, true, false, ℕ, zero, suc, List, [], ◌∷◌, length, slice_index_or, bytes_eq, IsTrue, Contains, refl, sym, ap, subst, ◌∙◌, ◌||◌, true≢false, arith}
use Rattle.std.specs.Cmp.Lexicographic.{bytes_decides}
use Rattle.std.specs.List.{list_any}
use Rattle.std.proofs.lemmas.List.Folds.{Any-from_list_any, list_any-from_Any}
use Rattle.std.proofs.lemmas.List.Elements.{Contains-get_or, Contains-append_right}
use Rattle.membership.specs.TextSets.{lists}
use Rattle.membership.specs.Members.{Membership}
use Rattle.membership.specs.Belonging.{belongs, Belongs}
use Rattle.membership.specs.Actors.{operator}
use Rattle.membership.proofs.BelongingLemmas.{belonging_is_told}
use Rattle.access_lists.specs.declared.acl.Entry.{Entry}
use Rattle.access_lists.specs.Permitted.{Permitted, is_permitted}

-- a text that is in a list is listed
lists-at : (xs : List (List ℕ)) (q : List ℕ) (k : ℕ) → k < length xs → slice_index_or xs k q ≡ q → lists xs q ≡ true
lists-at [] q k within is = absurd (omega arith)
lists-at (x ∷ xs) q zero within is = ap (λ b. b || lists xs q) ((bytes_decides q x).1 (sym is))
lists-at (x ∷ xs) q (suc k) within is = elim (bytes_eq q x) as (λ b. (b || lists xs q) ≡ true) [ true ↦ refl | false ↦ lists-at xs q k (omega arith) is ]

-- and one that is listed is in the list
Contains-lists : (xs : List (List ℕ)) (q : List ℕ) → lists xs q ≡ true → Contains xs q
Contains-lists [] q listed = absurd (true≢false (sym listed))
Contains-lists (x ∷ xs) q listed =
    elim (bytes_eq q x) as (λ b. bytes_eq q x ≡ b → (b || lists xs q) ≡ true → Contains (x ∷ xs) q) [
      | true ↦ λ same _. subst (Contains (x ∷ xs)) (sym ((bytes_decides q x).0 same)) (Contains-get_or (x ∷ xs) 0 x (omega arith))
      | false ↦ λ apart rest. Contains-append_right (x ∷ []) xs q (Contains-lists xs q rest)
    ] refl listed

second : (a b c : Bool) → b ≡ true → (a || (b || c)) ≡ true
second true b c is = refl
second false b c is = ap (λ d. d || c) is

third : (a b c : Bool) → c ≡ true → (a || (b || c)) ≡ true
third true b c is = refl
third false true c is = refl
third false false c is = is

-- an element that has one fact has another
Any-as : (P Q : List ℕ → Type 0) → ((x : List ℕ) → P x → Q x) → (xs : List (List ℕ)) → Any P xs → Any Q xs
Any-as P Q f xs any = (any.0, any.1, any.2, any.3, f any.1 any.4)

-- who is permitted is the operator, an actor, or a member of a group
permits : (membership : Membership) (entry : Entry) (caller : List ℕ) (a b c : Bool) → bytes_eq caller operator ≡ a → lists entry.actors caller ≡ b → list_any (belongs membership caller) entry.groups ≡ c
    → (a || (b || c)) ≡ true → Permitted membership entry caller
permits membership entry caller true b c same actor group is = inl ((bytes_decides caller operator).0 same)
permits membership entry caller false true c same actor group is = inr (inl (Contains-lists entry.actors caller actor))
permits membership entry caller false false c same actor group is =
    inr (inr (Any-as (λ name. belongs membership caller name ≡ true) (Belongs membership caller) (λ name. (belonging_is_told membership caller name).0) entry.groups
    (Any-from_list_any (belongs membership caller) entry.groups (group ∙ is))))

-- and each of these is
permitted_is : (membership : Membership) (entry : Entry) (caller : List ℕ) → Permitted membership entry caller → is_permitted membership entry caller ≡ true
permitted_is membership entry caller (inl same) = ap (λ b. b || (lists entry.actors caller || list_any (belongs membership caller) entry.groups)) ((bytes_decides caller operator).1 same)
permitted_is membership entry caller (inr (inl actor)) = second (bytes_eq caller operator) _ (list_any (belongs membership caller) entry.groups) (lists-at entry.actors caller actor.0 actor.1 actor.2)
permitted_is membership entry caller (inr (inr group)) = third (bytes_eq caller operator) (lists entry.actors caller) _
    (list_any-from_Any (belongs membership caller) entry.groups
    (Any-as (Belongs membership caller) (λ name. belongs membership caller name ≡ true) (λ name. (belonging_is_told membership caller name).1) entry.groups group))

pub permission_decided : (membership : Membership) (entry : Entry) (caller : List ℕ) → IsTrue (is_permitted membership entry caller) ↔ Permitted membership entry caller
permission_decided membership entry caller =
    (permits membership entry caller (bytes_eq caller operator) (lists entry.actors caller) (list_any (belongs membership caller) entry.groups) refl refl refl, permitted_is membership entry caller)
