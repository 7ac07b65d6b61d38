-- The one number of room, after each call.
use Rattle.std.proofs.Common.{◌≡◌, ℕ, zero, suc, ◌+◌, ◌-◌, ◌<◌, ◌≤◌, List, [], ◌∷◌, ◌++◌, set, take, drop, length, get_or, refl, sym, ap, subst, ◌∙◌, arith}
use Rattle.std.specs.FinMap.Entries as listed
use Rattle.std.specs.List.{AllByRecursion}
use Rattle.doc_tree.specs.Text.{text_cmp}
use Rattle.shelves.specs.Places.{entries_without}
use Rattle.shelves.specs.SortedMap.{Sorted}
use Rattle.shelves.specs.Rooms.{shelves_seen, HaveRoomEach, IsFresh, HaveRoom}
use Rattle.shelves.proofs.ValueLemmas.{all_put, all_without, all_more, all_front, all_last}

-- a vector whose items were all written has what was written
module _ {A : Type 0} where
  front : (ws ys : List A) → take (length ws) (ws ++ ys) ≡ ws
  front [] ys = refl
  front (w ∷ ws) ys = ap (λ l. w ∷ l) (front ws ys)

  pub written_over : (n : ℕ) (xs ws : List A) → length ws ≡ n → take n (ws ++ drop (length ws) xs) ≡ ws
  written_over n xs ws e = ap (λ k. take k (ws ++ drop (length ws) xs)) (sym e) ∙ front ws (drop (length ws) xs)

module _ {K V : Type 0} where
  -- less room
  less_each : (m n : ℕ) → m ≤ n → (shelves : List (List ℕ × Sorted K V)) → HaveRoomEach n shelves → HaveRoomEach m shelves
  less_each m n le shelves all = all_more (λ (e : List ℕ × Sorted K V) (h : n ≤ e.1.spare). omega (arith, h, le)) shelves all

  less_pool : (m n : ℕ) → m ≤ n → (fresh : List (Sorted K V)) → AllByRecursion (IsFresh n) fresh → AllByRecursion (IsFresh m) fresh
  less_pool m n le fresh all = all_more {P = IsFresh n} {Q = IsFresh m} (λ s h. record { empty = h.empty; room = omega (arith, h.room, le) }) fresh all

  -- one value more, on a shelf that stands under the name or is taken from the pool
  pub room-put : (n room room' : ℕ) (shelves new : List (List ℕ × Sorted K V)) (fresh fresh' : List (Sorted K V)) (name : List ℕ) (shelf : Sorted K V)
      → HaveRoom n shelves room fresh → new ≡ listed.put text_cmp name shelf shelves → n ≤ shelf.spare + 1 → room ≤ room' + 1 → length fresh ≤ length fresh' + 1 → AllByRecursion (IsFresh n) fresh'
      → HaveRoom (n - 1) new room' fresh'
  room-put n room room' shelves new fresh fresh' name shelf have is spare more count pool = record {
    more = omega (arith, have.more, more);
    each = subst (λ l. HaveRoomEach (n - 1) l) (sym is) (all_put text_cmp (λ (s : Sorted K V). n - 1 ≤ s.spare) name shelf shelves (omega (arith, spare)) (less_each (n - 1) n (omega arith) shelves have.each));
    count = omega (arith, have.count, count);
    pool = less_pool (n - 1) n (omega arith) fresh' pool;
  }

  -- a shelf that stays, with a value less on it
  pub room-left : (n room : ℕ) (shelves new : List (List ℕ × Sorted K V)) (fresh : List (Sorted K V)) (name : List ℕ) (shelf : Sorted K V)
      → HaveRoom n shelves room fresh → new ≡ listed.put text_cmp name shelf shelves → n ≤ shelf.spare → HaveRoom n new room fresh
  room-left n room shelves new fresh name shelf have is spare = record {
    more = have.more;
    each = subst (λ l. HaveRoomEach n l) (sym is) (all_put text_cmp (λ (s : Sorted K V). n ≤ s.spare) name shelf shelves spare have.each);
    count = have.count;
    pool = have.pool;
  }

  -- a shelf less
  pub room-without : (n room room' : ℕ) (shelves new : List (List ℕ × Sorted K V)) (fresh : List (Sorted K V)) (name : List ℕ)
      → HaveRoom n shelves room fresh → new ≡ entries_without text_cmp name shelves → room ≤ room' → HaveRoom n new room' fresh
  room-without n room room' shelves new fresh name have is more = record {
    more = omega (arith, have.more, more);
    each = subst (λ l. HaveRoomEach n l) (sym is) (all_without text_cmp (λ (s : Sorted K V). n ≤ s.spare) name shelves have.each);
    count = have.count;
    pool = have.pool;
  }

  -- every shelf has room for nothing more
  pub no_room_each : (shelves : List (List ℕ × Sorted K V)) → HaveRoomEach 0 shelves
  no_room_each [] = tt
  no_room_each (e ∷ shelves) = (omega arith, no_room_each shelves)

  -- the last of the pool
  pub pool_last : (n : ℕ) (old new : List (Sorted K V)) (shelf : Sorted K V) → old ≡ new ++ shelf ∷ [] → AllByRecursion (IsFresh n) old → IsFresh n shelf
  pool_last n old new shelf is all = all_last (IsFresh n) new shelf (subst (λ l. AllByRecursion (IsFresh n) l) is all)

  pub pool_front : (n : ℕ) (old new : List (Sorted K V)) (shelf : Sorted K V) → old ≡ new ++ shelf ∷ [] → AllByRecursion (IsFresh n) old → AllByRecursion (IsFresh n) new
  pool_front n old new shelf is all = all_front (IsFresh n) new (shelf ∷ []) (subst (λ l. AllByRecursion (IsFresh n) l) is all)

  -- a shelf that gets more room has what it had
  pub seen_set : (shelves : List (List ℕ × Sorted K V)) (i : ℕ) (x : List ℕ × Sorted K V) (shelf : Sorted K V) → x ≡ get_or shelves i x → shelf.entries ≡ x.1.entries → i < length shelves
      → shelves_seen (set shelves i (x.0, shelf)) ≡ shelves_seen shelves
  seen_set [] i x shelf is same within = refl
  seen_set (e ∷ shelves) zero x shelf is same within = ap (λ es. (x.0, es) ∷ shelves_seen shelves) same ∙ ap (λ (y : List ℕ × Sorted K V). (y.0, y.1.entries) ∷ shelves_seen shelves) is
  seen_set (e ∷ shelves) (suc i) x shelf is same within = ap (λ l. (e.0, e.1.entries) ∷ l) (seen_set shelves i x shelf is same (omega arith))
