-- What contracts see of a queue, call by call.
use Rattle.std.proofs.Common.{◌≡◌, ℕ, zero, suc, ◌+◌, ◌*◌, ◌<◌, ◌≤◌, min, false, List, [], ◌∷◌, length, map, Some, None, option_map, slice_get, refl, sym, ap, subst, ◌∙◌, arith}
use Rattle.std.proofs.lemmas.Option.{slice_get-map}
use Rattle.std.proofs.lemmas.List.{length-map}
use Rattle.notify_queue.specs.Kept.{IsKept, queued_in, walk}
use Rattle.notify_queue.specs.Linked.{AreLinked, IsLinked, TakenFrom, link_to, next_in, pair_at, place_of, with_place, is_never}
use Rattle.notify_queue.specs.Queue.{IsWithin, next, queue}
use Rattle.notify_queue.specs.declared.links.Link.{Link}
use Rattle.notify_queue.specs.declared.links.Links.{Links}
use Rattle.notify_queue.specs.declared.pair.Pair.{Pair}
use Rattle.notify_queue.proofs.LinkLemmas.{held, take_none, take_some}
use Rattle.notify_queue.proofs.PairLemmas.{with_pair_at}

-- the walk from the first place comes by all that are linked
walks : (table : List Link) (ever : List ℕ) (fuel : ℕ) → AreLinked table ever → length ever ≤ fuel → walk table fuel (slice_get ever 0) ≡ ever
walks table [] zero linked h = refl
walks table [] (suc fuel) linked h = refl
walks table (place ∷ more) zero linked h = absurd (omega arith)
walks table (place ∷ more) (suc fuel) linked h =
    ap (λ o. place ∷ walk table fuel o) (ap next_in linked.0 ∙ next_of more) ∙ ap (λ ps. place ∷ ps) (walks table more fuel linked.1 (omega arith))
  where
    next_of : (more : List ℕ) → next_in (link_to more) ≡ slice_get more 0
    next_of [] = refl
    next_of (next ∷ more) = refl

-- what contracts see, by the places that were ever queued
pub view_of : (links : Links) (ever : List ℕ) (taken resources : ℕ) → IsLinked links ever taken → queued_in links taken resources ≡ record { ever = map pair_at ever; taken = taken; resources = resources }
view_of links ever taken resources is =
    let room = is.room in
    let e : walk links.table.items (length links.table.items) links.first ≡ ever =
    ap (walk links.table.items (length links.table.items)) is.first ∙ walks links.table.items ever (length links.table.items) is.linked (omega arith) in
    ap (λ ps. record { ever = map pair_at ps; taken = taken; resources = resources }) e

pub queue_view : (old new : Links) (taken resources : ℕ) (pair : Pair) → pair.action < 4 → IsKept old taken resources
    → ((ever : List ℕ) (taken : ℕ) → IsLinked old ever taken → IsLinked new (with_place ever (place_of pair)) taken)
    → queued_in new taken resources ≡ queue pair (queued_in old taken resources)
queue_view old new taken resources pair h (ever, is, size) links =
    view_of new (with_place ever (place_of pair)) taken resources (links ever taken is)
    ∙ ap (λ ps. record { ever = ps; taken = taken; resources = resources }) (with_pair_at pair ever h)
    ∙ ap (queue pair) (sym (view_of old ever taken resources is))

pub queue_kept : (old new : Links) (taken resources : ℕ) (pair : Pair) → IsKept old taken resources
    → ((ever : List ℕ) (taken : ℕ) → IsLinked old ever taken → IsLinked new (with_place ever (place_of pair)) taken)
    → length new.table.items ≡ length old.table.items → IsKept new taken resources
queue_kept old new taken resources pair (ever, is, size) links same = (with_place ever (place_of pair), links ever taken is, same ∙ size)

-- what `next` says where a place was taken
pub record Takes (old new : Links) (taken resources p : ℕ) : Type 0 where
  pub value : Some (pair_at p) ≡ slice_get (queued_in old taken resources).ever taken
  pub after : queued_in new (taken + 1) resources ≡ next (queued_in old taken resources)
  pub kept : IsKept new (taken + 1) resources
  pub within : IsWithin resources (pair_at p)
  pub bound : taken < 4 * resources

pub takes : (old new : Links) (taken resources p : ℕ) → IsKept old taken resources → TakenFrom old new → old.head ≡ Some p → Takes old new taken resources p
takes old new taken resources p (ever, is, size) took h =
    let got = take_some old new ever taken p is took h in
    let view = view_of old ever taken resources is in
    let less = got.2 in
    let room = is.room in
    let inside : p < 4 * resources = subst (λ n. p < n) size (linked_within old.table.items ever taken p is.linked got.1) in
    record {
      value = sym (ap (λ q. slice_get q.ever taken) view ∙ slice_get-map pair_at ever taken ∙ ap (option_map pair_at) got.1);
      after = view_of new ever (taken + 1) resources got.0 ∙ ap (λ n. record { ever = map pair_at ever; taken = n; resources = resources }) (count ever less) ∙ ap next (sym view);
      kept = (ever, got.0, ap length took.table ∙ size);
      within = record { resource = omega arith; action = omega arith };
      bound = omega arith;
    }
  where
    count : (ever : List ℕ) → taken < length ever → taken + 1 ≡ min (taken + 1) (length (map pair_at ever))
    count ever less = let e = length-map ever pair_at in omega arith

    known : (more : List ℕ) → is_never (link_to more) ≡ false
    known [] = refl
    known (next ∷ more) = refl

    linked_within : (table : List Link) (ever : List ℕ) (k p : ℕ) → AreLinked table ever → slice_get ever k ≡ Some p → p < length table
    linked_within table [] k p linked h = cc
    linked_within table (q ∷ more) zero p linked h =
        let same : q ≡ p = cc in
        subst (λ n. n < length table) same (held table q (ap is_never linked.0 ∙ known more))
    linked_within table (q ∷ more) (suc k) p linked h = linked_within table more k p linked.1 h

-- what `next` says where none waits
pub record Rests (old new : Links) (taken resources : ℕ) : Type 0 where
  pub value : slice_get (queued_in old taken resources).ever taken ≡ None
  pub after : queued_in new taken resources ≡ next (queued_in old taken resources)
  pub kept : IsKept new taken resources

pub rests : (old new : Links) (taken resources : ℕ) → IsKept old taken resources → TakenFrom old new → old.head ≡ None → Rests old new taken resources
rests old new taken resources (ever, is, size) took h =
    let got = take_none old new ever taken is took h in
    let view = view_of old ever taken resources is in
    record {
      value = ap (λ q. slice_get q.ever taken) view ∙ slice_get-map pair_at ever taken ∙ ap (option_map pair_at) got.1;
      after = view_of new ever taken resources got.0 ∙ ap (λ n. record { ever = map pair_at ever; taken = n; resources = resources }) (count ever got.2) ∙ ap next (sym view);
      kept = (ever, got.0, ap length took.table ∙ size);
    }
  where
    count : (ever : List ℕ) → taken ≡ length ever → taken ≡ min (taken + 1) (length (map pair_at ever))
    count ever e = let f = length-map ever pair_at in omega arith
