-- A stream has one split, and what a stream lost makes one.
use Rattle.std.proofs.Common.{◌≡◌, ℕ, ◌+◌, ◌-◌, ◌≤◌, List, [], ◌∷◌, ◌++◌, length, Some, None, refl, sym, ap, ◌∙◌, subst, arith, append_assoc}
use Rattle.std.specs.declared.option.Option.{Option}
use Rattle.std.specs.List.{flat_map}
use Rattle.http_wire.specs.Message.{Message, print_message, Begins, BeginsNone, last_place}
use Rattle.http_wire.specs.Splits.{place_after, BeginsAll, Splits, Takes, TakesAll}
use Rattle.http_wire.proofs.MessageLemmas.{one_message}

-- a stream has one split
pub Splits-unique : (place : ℕ) (bytes : List ℕ) (ms ns : List Message) (rest other : List ℕ)
    → Splits place bytes ms rest → Splits place bytes ns other → (ms ≡ ns) × (rest ≡ other)
Splits-unique place bytes [] [] rest other s t = (refl, sym s.whole ∙ t.whole)
Splits-unique place bytes [] (n ∷ ns) rest other s t =
    absurd (s.none n t.whole.0 (subst (λ xs. Begins (last_place - place) xs n t.whole.0) s.whole t.whole.1))
Splits-unique place bytes (m ∷ ms) [] rest other s t =
    absurd (t.none m s.whole.0 (subst (λ xs. Begins (last_place - place) xs m s.whole.0) t.whole s.whole.1))
Splits-unique place bytes (m ∷ ms) (n ∷ ns) rest other s t =
    let same = one_message (last_place - place) bytes m n s.whole.0 t.whole.0 s.whole.1 t.whole.1 in
    let next = place + length (print_message m) in
    let one : Splits next s.whole.0 ms rest = record { whole = s.whole.2; none = s.none } in
    let two : Splits next s.whole.0 ns other = record {
      whole = subst (λ xs. BeginsAll next xs ns other) (sym same.1)
          (subst (λ k. BeginsAll (place + length (print_message k)) t.whole.0 ns other) (sym same.0) t.whole.2);
      none = subst (λ k. BeginsNone (last_place - place_after (place + length (print_message k)) ns) other) (sym same.0) t.none;
    } in
    let more = Splits-unique next s.whole.0 ms ns rest other one two in
    let all : m ∷ ms ≡ n ∷ ns = cc (same.0, more.0) in
    (all, more.1)

-- the bytes of a split are those of its messages and then the rest
pub BeginsAll-whole : (place : ℕ) (bytes : List ℕ) (ms : List Message) (rest : List ℕ)
    → BeginsAll place bytes ms rest → bytes ≡ flat_map print_message ms ++ rest
BeginsAll-whole place bytes [] rest s = s
BeginsAll-whole place bytes (m ∷ ms) rest s =
    s.1.whole ∙ ap (λ xs. print_message m ++ xs) (BeginsAll-whole (place + length (print_message m)) s.0 ms rest s.2)
    ∙ sym (append_assoc (print_message m) (flat_map print_message ms) rest)

-- one more message behind those that a stream lost
pub TakesAll-push : (place : ℕ) (old mid new : Option (List ℕ)) (ms : List Message) (m : Message)
    → TakesAll place old mid ms → Takes (place_after place ms) mid new m → TakesAll place old new (ms ++ m ∷ [])
TakesAll-push place old mid new [] m p t = (new, subst (λ o. Takes place o new m) (sym p) t, refl)
TakesAll-push place old mid new (k ∷ ks) m p t = (p.0, p.1, TakesAll-push (place + length (print_message k)) p.0 mid new ks m p.2 t)

-- the place behind one more message
pub place_after-push : (place : ℕ) (ms : List Message) (m : Message)
    → place_after place (ms ++ m ∷ []) ≡ place_after place ms + length (print_message m)
place_after-push place [] m = refl
place_after-push place (k ∷ ks) m = place_after-push (place + length (print_message k)) ks m

-- a known stream that lost a message begins with it, and the rest is known
pub Begins-from_takes : (place : ℕ) (bytes : List ℕ) (new : Option (List ℕ)) (m : Message)
    → Takes place (Some bytes) new m → (rest : List ℕ) × (new ≡ Some rest) × Begins (last_place - place) bytes m rest
Begins-from_takes place bytes None m t = let e : Some bytes ≡ None = t.bytes in absurd (cc)
Begins-from_takes place bytes (Some rest) m t =
    let e : Some bytes ≡ Some (print_message m ++ rest) = t.bytes in
    let ends : length (print_message m) ≤ last_place - place = omega (arith, t.ends) in
    (rest, refl, record { message = t.message; ends = ends; whole = cc })

-- what a known stream lost makes the front of a split, and the rest is known
pub BeginsAll-from_takes : (place : ℕ) (bytes : List ℕ) (new : Option (List ℕ)) (ms : List Message)
    → TakesAll place (Some bytes) new ms → (rest : List ℕ) × (new ≡ Some rest) × BeginsAll place bytes ms rest
BeginsAll-from_takes place bytes new [] p = (bytes, sym p, refl)
BeginsAll-from_takes place bytes new (m ∷ ms) p =
    let next = place + length (print_message m) in
    let one = Begins-from_takes place bytes p.0 m p.1 in
    let more = BeginsAll-from_takes next one.0 new ms (subst (λ o. TakesAll next o new ms) one.1 p.2) in
    (more.0, more.1, (one.0, one.2, more.2))
