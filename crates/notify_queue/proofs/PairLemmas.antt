-- Pairs and their places.
use Rattle.std.proofs.Common.{◌≡◌, ◌≢◌, ℕ, ◌+◌, ◌*◌, ◌/◌, ◌%◌, ◌<◌, inl, inr, Bool, true, false, ◌&&◌, ◌||◌, cond, List, [], ◌∷◌, ◌++◌, map, nat_eq, refl, sym, ap, subst, ◌∙◌, arith}
use Rattle.std.specs.List.{list_any}
use Rattle.std.proofs.lemmas.Bool.{cases_eq, eqb-true, false≢true}
use Rattle.std.proofs.lemmas.List.{map_push}
use Rattle.notify_queue.specs.Linked.{pair_at, place_of, with_place}
use Rattle.notify_queue.specs.Queue.{has_pair, same_pair, with_pair}
use Rattle.notify_queue.specs.declared.pair.Pair.{Pair}

same : (n : ℕ) → nat_eq n n ≡ true
same n = grind arith

other : (m n : ℕ) → m ≢ n → nat_eq m n ≡ false
other m n h = grind arith

and_both : (a b : Bool) → (a && b) ≡ true → (a ≡ true) × (b ≡ true)
and_both true true h = (refl, refl)
and_both true false h = absurd (false≢true h)
and_both false b h = absurd (false≢true h)

not_both : (a b : Bool) → ((a ≡ true) → (b ≡ true) → ⊥) → (a && b) ≡ false
not_both true true h = absurd (h refl refl)
not_both true false h = refl
not_both false b h = refl

-- the resource of a place, and the action
pub resource_at : (r a : ℕ) → a < 4 → (4 * r + a) / 4 ≡ r
resource_at r a h = omega arith

pub action_at : (r a : ℕ) → a < 4 → (4 * r + a) % 4 ≡ a
action_at r a h = omega arith

place_at : (place : ℕ) → 4 * (place / 4) + place % 4 ≡ place
place_at place = omega arith

-- the pair at the place of a pair is that pair
pub pair_at-place_of : (pair : Pair) → pair.action < 4 → pair_at (place_of pair) ≡ pair
pair_at-place_of pair h =
    ap (λ r. record { resource = r; action = (4 * pair.resource + pair.action) % 4 }) (resource_at pair.resource pair.action h) ∙ ap (λ a. record { resource = pair.resource; action = a }) (action_at pair.resource pair.action h)

-- a pair is that at a place exactly where the place is its own
same_place : (pair : Pair) (place : ℕ) → pair.action < 4 → same_pair pair (pair_at place) ≡ nat_eq (place_of pair) place
same_place pair place h = elim (cases_eq (place_of pair) place) [
  | inl at ↦
      let e : same_pair pair (pair_at (place_of pair)) ≡ true = ap (same_pair pair) (pair_at-place_of pair h) ∙ both pair in
      subst (λ n. same_pair pair (pair_at n) ≡ nat_eq (place_of pair) n) at (e ∙ sym (same (place_of pair)))
  | inr off ↦
      not_both (nat_eq pair.resource (place / 4)) (nat_eq pair.action (place % 4)) (λ r a.
      let er : pair.resource ≡ place / 4 = eqb-true pair.resource (place / 4) r in
      let ea : pair.action ≡ place % 4 = eqb-true pair.action (place % 4) a in
      let all = place_at place in
      off (omega arith))
      ∙ sym (other (place_of pair) place off)
]
  where
    both : (p : Pair) → same_pair p p ≡ true
    both p = ap (λ b. b && nat_eq p.action p.action) (same p.resource) ∙ same p.action

pub has_place : (pair : Pair) (places : List ℕ) → pair.action < 4 → has_pair (map pair_at places) pair ≡ list_any (nat_eq (place_of pair)) places
has_place pair [] h = refl
has_place pair (place ∷ more) h = ap (λ b. b || has_pair (map pair_at more) pair) (same_place pair place h) ∙ ap (λ b. nat_eq (place_of pair) place || b) (has_place pair more h)

map_cond : (b : Bool) (xs ys : List ℕ) → map pair_at (cond b xs ys) ≡ cond b (map pair_at xs) (map pair_at ys)
map_cond true xs ys = refl
map_cond false xs ys = refl

-- a pair is queued as its place is
pub with_pair_at : (pair : Pair) (places : List ℕ) → pair.action < 4 → map pair_at (with_place places (place_of pair)) ≡ with_pair (map pair_at places) pair
with_pair_at pair places h =
    let pushed : map pair_at (places ++ place_of pair ∷ []) ≡ map pair_at places ++ pair ∷ [] = map_push pair_at places (place_of pair) ∙ ap (λ p. map pair_at places ++ p ∷ []) (pair_at-place_of pair h) in
    map_cond (list_any (nat_eq (place_of pair)) places) places (places ++ place_of pair ∷ [])
    ∙ ap (λ ps. cond (list_any (nat_eq (place_of pair)) places) (map pair_at places) ps) pushed
    ∙ ap (λ b. cond b (map pair_at places) (map pair_at places ++ pair ∷ [])) (sym (has_place pair places h))
