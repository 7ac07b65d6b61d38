-- How the parts of a talk come together.
use Rattle.std.proofs.Common.{◌≡◌, ◌==◌, ℕ, ◌≤◌, inl, inr, arith, List, [], ◌∷◌, ◌++◌, cond, Result, Ok, Err, Some, None, refl, sym, ap, ◌∙◌, subst, append-nil, append_assoc}
use Rattle.std.proofs.lemmas.Cmp.{nat_eq_equiv}
use Rattle.std.proofs.lemmas.Grind.{flat_map-append}
use Rattle.std.specs.declared.option.Option.{Option}
use Rattle.std.specs.Io.KnownBytes.{prepend_known, append_known}
use Rattle.outside_core.specs.Failed.{Rose}
use Rattle.peer_wire.specs.Answer.{print_answer}
use Rattle.peer_wire.specs.Asks.{ask_text}
use Rattle.peer_wire.specs.declared.asks.Ask.{Ask}
use Rattle.peer_wire.specs.declared.asks.Whom.{Whom}
use Rattle.talks.specs.Talk.{Talk, Heard, Line, Exchange, heard, replies_in, requests_in, Follows, Goes, Stops, IsUnwritten, IsUnread, IsUnanswered, ask, end, next_text}
use Rattle.talks.specs.Endings.{Ending, done, answered, malformed, is_good, want, want_or, Halts, Comes, Steps, Parts}
use Rattle.talks.specs.Exchanges.{Carried, CutShort, Unwritten, Unread, NoneCame, IsWanted, IsWantedOr, HaltCause, HasHaltCause}
use Rattle.talks.specs.declared.exchange.Got.{Got}
use Rattle.talks.specs.declared.halts.Halt.{Halt}
use Rattle.talks.specs.declared.halts.Halt.TheVariants as halt

-- two pieces behind what is known are one
append_known-append : (known : Option (List ℕ)) (xs ys : List ℕ) → append_known (append_known known xs) ys ≡ append_known known (xs ++ ys)
append_known-append None xs ys = refl
append_known-append (Some known) xs ys = ap Some (append_assoc known xs ys)

-- and so are two before it
prepend_known-append : (xs ys : List ℕ) (known : Option (List ℕ)) → prepend_known (xs ++ ys) known ≡ prepend_known xs (prepend_known ys known)
prepend_known-append xs ys None = refl
prepend_known-append xs ys (Some known) = ap Some (append_assoc xs ys known)

-- talks that say the same go on to the same
pub Follows-same : {E : Type 0} (xs : List Exchange) (t u v : Talk E) → ((replies : List Heard) → t replies ≡ u replies) → Follows u xs v → Follows t xs v
Follows-same [] t u v same q = λ replies. same replies ∙ q replies
Follows-same (x ∷ xs) t u v same q =
    (same [] ∙ q.0, q.1, Follows-same xs (λ replies. t (heard x.reply ∷ replies)) (λ replies. u (heard x.reply ∷ replies)) v (λ replies. same (heard x.reply ∷ replies)) q.2)

-- exchanges behind others
pub Follows-append : {E : Type 0} (xs ys : List Exchange) (t u v : Talk E) → Follows t xs u → Follows u ys v → Follows t (xs ++ ys) v
Follows-append [] ys t u v p q = Follows-same ys t u v p q
Follows-append (x ∷ xs) ys t u v p q = (p.0, p.1, Follows-append xs ys (λ replies. t (heard x.reply ∷ replies)) u v p.2 q)

-- no bytes before what is known, and none behind it
pub none_before : (o : Option (List ℕ)) → o ≡ prepend_known [] o
none_before None = refl
none_before (Some xs) = refl

pub none_behind : (o : Option (List ℕ)) → o ≡ append_known o []
none_behind None = refl
none_behind (Some xs) = ap Some (sym (append-nil xs))

-- nothing happened yet
pub Goes-none : {E : Type 0} (whom : Whom) (talk : Talk E) (l : Line) → Goes whom talk talk l l
Goes-none whom talk l = record {
  exchanges = [];
  follows = λ replies. refl;
  read = none_before l.left;
  written = none_behind l.gained;
}

-- one part of a talk, and then another
pub Goes-then : {E : Type 0} (whom : Whom) (t u v : Talk E) (a b c : Line) → Goes whom t u a b → Goes whom u v b c → Goes whom t v a c
Goes-then whom t u v a b c p q = record {
  exchanges = p.exchanges ++ q.exchanges;
  follows = Follows-append p.exchanges q.exchanges t u v p.follows q.follows;
  read =
      p.read ∙ ap (prepend_known (replies_in p.exchanges)) q.read
      ∙ sym (prepend_known-append (replies_in p.exchanges) (replies_in q.exchanges) c.left)
      ∙ ap (λ xs. prepend_known xs c.left) (sym (flat_map-append (λ x. print_answer x.reply) p.exchanges q.exchanges));
  written =
      q.written ∙ ap (λ o. append_known o (requests_in whom q.exchanges)) p.written
      ∙ append_known-append a.gained (requests_in whom p.exchanges) (requests_in whom q.exchanges)
      ∙ ap (append_known a.gained) (sym (flat_map-append (λ x. ask_text whom x.request) p.exchanges q.exchanges));
}

-- one request and its reply
pub Goes-ask : {E : Type 0} (whom : Whom) (request : Ask) (next : Heard → Talk E) (status : ℕ) (body : List ℕ) (old new : Line)
    → Carried whom request status body old new → Goes whom (ask request next) (next (record { status = status; body = body })) old new
Goes-ask {E} whom request next status body old new p =
    let h : heard p.answer ≡ record { status = status; body = body } =
    ap (λ s. record { status = s; body = p.answer.body }) (sym p.status_is) ∙ ap (λ b. record { status = status; body = b }) (sym p.body_is) in
    record {
      exchanges = record { request = request; reply = p.answer } ∷ [];
      follows = (refl, p.is, λ replies. ap (λ k. next k replies) h);
      read = p.read ∙ ap (λ xs. prepend_known xs new.left) (sym (append-nil (print_answer p.answer)));
      written = p.written ∙ ap (append_known old.gained) (sym (append-nil (ask_text whom request)));
    }

-- one that was cut short
pub Stops-ask : {E : Type 0} (whom : Whom) (request : Ask) (next : Heard → Talk E) (old new : Line)
    → CutShort whom request old new → Stops whom (ask request next) old new
Stops-ask whom request next old new p =
    record { rest = ask request next; mid = old; went = Goes-none whom (ask request next) old; part = p.part; lost = p.lost }

-- one that wasn't written whole
pub IsUnwritten-ask : {E : Type 0} (whom : Whom) (request : Ask) (next : Heard → Talk E) (old new : Line)
    → Unwritten whom request old new → IsUnwritten whom (ask request next) old new
IsUnwritten-ask whom request next old new p =
    record { rest = ask request next; mid = old; went = Goes-none whom (ask request next) old; part = p.part; unread = p.unread }

-- one whose reply wasn't read whole
pub IsUnread-ask : {E : Type 0} (whom : Whom) (request : Ask) (next : Heard → Talk E) (old new : Line)
    → Unread whom request old new → IsUnread whom (ask request next) old new
IsUnread-ask whom request next old new p =
    record { rest = ask request next; mid = old; went = Goes-none whom (ask request next) old; written = p.written; lost = p.lost }

-- one to which no reply came
pub IsUnanswered-ask : {E : Type 0} (whom : Whom) (request : Ask) (next : Heard → Talk E) (old new : Line)
    → NoneCame whom request old new → IsUnanswered whom (ask request next) request old new
IsUnanswered-ask whom request next old new p =
    record { rest = ask request next; mid = old; went = Goes-none whom (ask request next) old; asked = refl; written = p.written; none = p.none; lost = p.lost }

-- nothing more happened
pub Stops-none : {E : Type 0} (whom : Whom) (talk : Talk E) (l : Line) → Stops whom talk l l
Stops-none whom talk l = record {
  rest = talk;
  mid = l;
  went = Goes-none whom talk l;
  part = ([], next_text whom (talk []), refl, none_behind l.gained);
  lost = ([], none_before l.left);
}

-- a halt behind a first part
pub Halts-then : {R : Type 0} (whom : Whom) (t u : Talk (Ending R)) (h : Halt) (a b c : Line) → Goes whom t u a b → Halts whom u h b c → Halts whom t h a c
Halts-then whom t u halt.ReadFault a b c p q = record { rest = q.rest; mid = q.mid; went = Goes-then whom t u q.rest a b q.mid p q.went; written = q.written; lost = q.lost }
Halts-then whom t u halt.WriteFault a b c p q = record { rest = q.rest; mid = q.mid; went = Goes-then whom t u q.rest a b q.mid p q.went; part = q.part; unread = q.unread }
Halts-then whom t u halt.NoMemory a b c p q = record { rest = q.rest; mid = q.mid; went = Goes-then whom t u q.rest a b q.mid p q.went; part = q.part; lost = q.lost }
Halts-then whom t u (halt.Unanswered request) a b c p q = record { rest = q.rest; mid = q.mid; went = Goes-then whom t u q.rest a b q.mid p q.went; asked = q.asked; written = q.written; none = q.none; lost = q.lost }
Halts-then whom t u (halt.Malformed request) a b c p q = Goes-then whom t u (end (malformed request)) a b c p q
Halts-then whom t u (halt.Answered status request) a b c p q = Goes-then whom t u (end (answered status request)) a b c p q

-- what comes behind a first part
pub Parts-then : {R T : Type 0} (whom : Whom) (next : T → Talk (Ending R)) (t u : Talk (Ending R)) (r : Result T Halt) (a b c : Line)
    → Goes whom t u a b → Parts whom next u r b c → Parts whom next t r a c
Parts-then whom next t u (Ok x) a b c p q = Goes-then whom t u (next x) a b c p q
Parts-then whom next t u (Err h) a b c p q = Halts-then whom t u h a b c p q

pub Comes-then : {R : Type 0} (whom : Whom) (t u : Talk (Ending R)) (r : Result R Halt) (a b c : Line)
    → Goes whom t u a b → Comes whom u r b c → Comes whom t r a c
Comes-then whom t u r a b c p q = Parts-then whom (λ x. end (done x)) t u r a b c p q

-- a step without the server goes on
pub Goes-step : {E : Type 0} (whom : Whom) (t u : Talk E) (l : Line) → t ≡ u → Goes whom t u l l
Goes-step whom t u l e = subst (λ k. Goes whom k u l l) (sym e) (Goes-none whom u l)

-- or halts
pub Halts-step : {R T : Type 0} (whom : Whom) (next : T → Talk (Ending R)) (t : Talk (Ending R)) (h : Halt) (l : Line)
    → Steps next t (Err h) → Halts whom t h l l
Halts-step whom next t halt.ReadFault l p = absurd p
Halts-step whom next t halt.WriteFault l p = absurd p
Halts-step whom next t halt.NoMemory l p = Stops-none whom t l
Halts-step whom next t (halt.Unanswered request) l p = absurd p
Halts-step whom next t (halt.Malformed request) l p = Goes-step whom t (end (malformed request)) l p
Halts-step whom next t (halt.Answered status request) l p = absurd p

-- a last step
pub Parts-step : {R T : Type 0} (whom : Whom) (next : T → Talk (Ending R)) (t : Talk (Ending R)) (r : Result T Halt) (l : Line)
    → Steps next t r → Parts whom next t r l l
Parts-step whom next t (Ok x) l p = Goes-step whom t (next x) l p
Parts-step whom next t (Err h) l p = Halts-step whom next t h l p

pub Comes-step : {R : Type 0} (whom : Whom) (t : Talk (Ending R)) (r : Result R Halt) (l : Line)
    → Steps (λ x. end (done x)) t r → Comes whom t r l l
Comes-step whom t r l p = Parts-step whom (λ x. end (done x)) t r l p

-- a good reply goes on
pub Goes-want : {R : Type 0} (whom : Whom) (request : Ask) (next : List ℕ → Talk (Ending R)) (got : Got) (old new : Line)
    → IsWanted whom request (Ok got) old new → Goes whom (want request next) (next got.body) old new
Goes-want whom request next got old new p =
    let went = Goes-ask whom request (λ reply. cond (is_good reply.status) (next reply.body) (end (answered reply.status request))) got.status got.body old new p.2 in
    subst (λ b. Goes whom (want request next) (cond b (next got.body) (end (answered got.status request))) old new) p.1 went

-- and any other outcome halts
pub Halts-want : {R : Type 0} (whom : Whom) (request : Ask) (next : List ℕ → Talk (Ending R)) (h : Halt) (old new : Line)
    → IsWanted whom request (Err h) old new → Halts whom (want request next) h old new
Halts-want whom request next halt.ReadFault old new p = IsUnread-ask whom request _ old new p
Halts-want whom request next halt.WriteFault old new p = IsUnwritten-ask whom request _ old new p
Halts-want whom request next halt.NoMemory old new p = Stops-ask whom request _ old new p
Halts-want whom request next (halt.Unanswered r) old new p =
    subst (λ k. IsUnanswered whom (want request next) k old new) (sym p.0) (IsUnanswered-ask whom request _ old new p.1)
Halts-want whom request next (halt.Malformed r) old new p = absurd p
Halts-want whom request next (halt.Answered status r) old new p =
    let went = Goes-ask whom request (λ reply. cond (is_good reply.status) (next reply.body) (end (answered reply.status request))) status p.2.0 old new p.2.1 in
    let bad = subst (λ b. Goes whom (want request next) (cond b (next p.2.0) (end (answered status request))) old new) p.1 went in
    subst (λ k. Goes whom (want request next) (end (answered status k)) old new) (sym p.0) bad

-- a good reply goes on, with the request that it came to
pub Goes-wanted : {R : Type 0} (whom : Whom) (request : Ask) (next : Ask → List ℕ → Talk (Ending R)) (got : Got) (old new : Line)
    → IsWanted whom request (Ok got) old new → Goes whom (want request (next request)) (next got.ask got.body) old new
Goes-wanted whom request next got old new p =
    subst (λ k. Goes whom (want request (next request)) (next k got.body) old new) (sym p.0) (Goes-want whom request (next request) got old new p)

-- a halt behind a first part, handed on
pub Comes-halted : {R : Type 0} (whom : Whom) (t u : Talk (Ending R)) (r : Result R Halt) (h : Halt) (a b c : Line)
    → r ≡ Err h → Goes whom t u a b → Halts whom u h b c → Comes whom t r a c
Comes-halted whom t u r h a b c e p q = rw e (Halts-then whom t u h a b c p q)

-- a talk that says the same
pub Goes-same : {E : Type 0} (whom : Whom) (t u v : Talk E) (a b : Line) → ((replies : List Heard) → t replies ≡ u replies) → Goes whom u v a b → Goes whom t v a b
Goes-same whom t u v a b same p = record {
  exchanges = p.exchanges;
  follows = Follows-same p.exchanges t u v same p.follows;
  read = p.read;
  written = p.written;
}

-- a good reply, where another status is expected too
pub Goes-good : {R : Type 0} (whom : Whom) (expected : ℕ) (request : Ask) (other : Talk (Ending R)) (next : List ℕ → Talk (Ending R)) (got : Got) (old new : Line)
    → IsWantedOr whom expected request (Ok (Some got)) old new → Goes whom (want_or expected request other next) (next got.body) old new
Goes-good whom expected request other next got old new p =
    let went = Goes-ask whom request (λ reply. cond (is_good reply.status) (next reply.body) (cond (reply.status == expected) other (end (answered reply.status request)))) got.status got.body old new p.2 in
    subst (λ b. Goes whom (want_or expected request other next) (cond b (next got.body) (cond (got.status == expected) other (end (answered got.status request)))) old new) p.1 went

-- the status that is expected too
pub Goes-other : {R : Type 0} (whom : Whom) (expected : ℕ) (request : Ask) (other : Talk (Ending R)) (next : List ℕ → Talk (Ending R)) (old new : Line)
    → IsWantedOr whom expected request (Ok None) old new → Goes whom (want_or expected request other next) other old new
Goes-other whom expected request other next old new p =
    let went = Goes-ask whom request (λ reply. cond (is_good reply.status) (next reply.body) (cond (reply.status == expected) other (end (answered reply.status request)))) expected p.1.0 old new p.1.1 in
    let bad = subst (λ b. Goes whom (want_or expected request other next) (cond b (next p.1.0) (cond (expected == expected) other (end (answered expected request)))) old new) p.0 went in
    subst (λ b. Goes whom (want_or expected request other next) (cond b other (end (answered expected request))) old new) (nat_eq_equiv.refl expected) bad

-- and any other outcome halts
pub Halts-or : {R : Type 0} (whom : Whom) (expected : ℕ) (request : Ask) (other : Talk (Ending R)) (next : List ℕ → Talk (Ending R)) (h : Halt) (old new : Line)
    → IsWantedOr whom expected request (Err h) old new → Halts whom (want_or expected request other next) h old new
Halts-or whom expected request other next halt.ReadFault old new p = IsUnread-ask whom request _ old new p
Halts-or whom expected request other next halt.WriteFault old new p = IsUnwritten-ask whom request _ old new p
Halts-or whom expected request other next halt.NoMemory old new p = Stops-ask whom request _ old new p
Halts-or whom expected request other next (halt.Unanswered r) old new p =
    subst (λ k. IsUnanswered whom (want_or expected request other next) k old new) (sym p.0) (IsUnanswered-ask whom request _ old new p.1)
Halts-or whom expected request other next (halt.Malformed r) old new p = absurd p
Halts-or whom expected request other next (halt.Answered status r) old new p =
    let went = Goes-ask whom request (λ reply. cond (is_good reply.status) (next reply.body) (cond (reply.status == expected) other (end (answered reply.status request)))) status p.3.0 old new p.3.1 in
    let bad = subst (λ b. Goes whom (want_or expected request other next) (cond b (next p.3.0) (cond (status == expected) other (end (answered status request)))) old new) p.1 went in
    let none = subst (λ b. Goes whom (want_or expected request other next) (cond b other (end (answered status request))) old new) p.2 bad in
    subst (λ k. Goes whom (want_or expected request other next) (end (answered status k)) old new) (sym p.0) none

-- a halt of a part behind a first part, handed on
pub Parts-halted : {R T : Type 0} (whom : Whom) (next : T → Talk (Ending R)) (t u : Talk (Ending R)) (r : Result T Halt) (h : Halt) (a b c : Line)
    → r ≡ Err h → Goes whom t u a b → Halts whom u h b c → Parts whom next t r a c
Parts-halted whom next t u r h a b c e p q = rw e (Halts-then whom t u h a b c p q)

-- memory was wanting behind a first part
pub Parts-memory : {R T : Type 0} (whom : Whom) (next : T → Talk (Ending R)) (t u : Talk (Ending R)) (r : Result T Halt) (a b : Line)
    → r ≡ Err halt.NoMemory → Goes whom t u a b → Parts whom next t r a b
Parts-memory whom next t u r a b e p = rw e (Halts-then whom t u halt.NoMemory a b b p (Stops-none whom u b))

-- a step without the server is no fault of the link
pub Steps-cause : {R T : Type 0} (next : T → Talk (Ending R)) (t : Talk (Ending R)) (r : Result T Halt) (count : ℕ)
    → Steps next t r → HasHaltCause count count r
Steps-cause next t (Ok x) count p = record { later = omega arith; rose = tt }
Steps-cause next t (Err halt.ReadFault) count p = absurd p
Steps-cause next t (Err halt.WriteFault) count p = absurd p
Steps-cause next t (Err halt.NoMemory) count p = record { later = omega arith; rose = tt }
Steps-cause next t (Err (halt.Unanswered request)) count p = absurd p
Steps-cause next t (Err (halt.Malformed request)) count p = record { later = omega arith; rose = tt }
Steps-cause next t (Err (halt.Answered status request)) count p = absurd p

-- nor is the halt that one answers
pub Steps-halted : {R S T : Type 0} (next : S → Talk (Ending R)) (t : Talk (Ending R)) (h : Halt) (count : ℕ)
    → Steps next t (Err h) → HasHaltCause {T = T} count count (Err h)
Steps-halted next t halt.ReadFault count p = absurd p
Steps-halted next t halt.WriteFault count p = absurd p
Steps-halted next t halt.NoMemory count p = record { later = omega arith; rose = tt }
Steps-halted next t (halt.Unanswered request) count p = absurd p
Steps-halted next t (halt.Malformed request) count p = record { later = omega arith; rose = tt }
Steps-halted next t (halt.Answered status request) count p = absurd p

-- a count that rose later rose from before
Rose-from : (a b c : ℕ) → a ≤ b → Rose b c → Rose a c
Rose-from a b c le (inl lt) = inl (omega arith)
Rose-from a b c le (inr e) = inr e

Halt-from : (a b c : ℕ) (h : Halt) → a ≤ b → HaltCause b c h → HaltCause a c h
Halt-from a b c halt.ReadFault le p = Rose-from a b c le p
Halt-from a b c halt.WriteFault le p = Rose-from a b c le p
Halt-from a b c halt.NoMemory le p = tt
Halt-from a b c (halt.Unanswered request) le p = tt
Halt-from a b c (halt.Malformed request) le p = tt
Halt-from a b c (halt.Answered status request) le p = tt

-- the cause of a later part
pub Cause-then : {T : Type 0} (a b c : ℕ) (r : Result T Halt) → a ≤ b → HasHaltCause b c r → HasHaltCause a c r
Cause-then a b c (Ok x) le p = let q = p.later in record { later = omega arith; rose = tt }
Cause-then a b c (Err h) le p = let q = p.later in record { later = omega arith; rose = Halt-from a b c h le p.rose }

-- the cause of a halt that is handed on
pub Cause-halted : {S T : Type 0} (a b : ℕ) (s : Result S Halt) (r : Result T Halt) (h : Halt) → s ≡ Err h → r ≡ Err h → HasHaltCause a b s → HasHaltCause a b r
Cause-halted a b s r h e f p = rw f (record { later = p.later; rose = rw e at p.rose })
