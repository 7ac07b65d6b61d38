-- How the loop over a stream goes on from turn to turn, and what it comes to in the end.
use Rattle.std.proofs.Common.{◌≡◌, ◌+◌, ℕ, List, [], ◌∷◌, ◌++◌, length, Option, None, Some, Result, Ok, Err, IfSome, IfErr, OnOk, OnErr, MatchResult, sym, ap, subst, refl, ◌∙◌, append_assoc, append-nil}
use Rattle.std.specs.Io.KnownBytes.{append_known, prepend_known}
use Rattle.std.proofs.KnownBytes.{prepend_known-nil}
use Rattle.outside_core.specs.Sink.{GainsPart, PassesOn}
use Rattle.outside_core.proofs.SinkLemmas.{append_known-append}
use Rattle.org_requests.specs.Requests.{IsRead}
use Rattle.org_requests.specs.declared.replies.Reply.{Reply}
use Rattle.org_requests.specs.declared.requests.Request.{Request}
use Rattle.http_wire.specs.Message.{Message, print_message}
use Rattle.http_wire.specs.Splits.{Takes}
use Rattle.http_wire.specs.Held.{Held}
use Rattle.http_wire.specs.Room.{stream}
use Rattle.http_wire.specs.Requests.{request_of}
use Rattle.http_wire.specs.Replies.{reply_text}
use Rattle.http_wire.proofs.SplitsLemmas.{TakesAll-push, place_after-push}
use Rattle.answer_stream.specs.declared.ends.End.{End}
use Rattle.answer_stream.specs.declared.ends.End.TheVariants.{Closed, ReadFault, WriteFault, NotAMessage}
use Rattle.answer_stream.specs.Answering.{Meaning, AreAnswered, texts_of}
use Rattle.answer_stream.specs.Ends.{IsCutShort}
use Rattle.answer_stream.specs.Turns.{TakesTurn, LosesTurn, EndsTurn, HasReason, Stays, SoFar, Stops, EndsLoop}
use Rattle.answer_stream.proofs.AnsweringLemmas.{AreAnswered-push, texts_of-push}

-- more bytes go behind those that wait
passes_more : (held mid now : Option (List ℕ)) (bytes more waited waiting : List ℕ)
    → PassesOn held mid bytes waited → PassesOn mid now (waited ++ more) waiting → PassesOn held now (bytes ++ more) waiting
passes_more held mid now bytes more waited waiting p q = (
  p.0 ++ q.0,
  ap (λ xs. xs ++ more) p.1 ∙ append_assoc p.0 waited more ∙ ap (λ xs. p.0 ++ xs) q.1 ∙ sym (append_assoc p.0 q.0 waiting),
  q.2 ∙ ap (λ known. append_known known q.0) p.2 ∙ append_known-append held p.0 q.0,
)

-- bytes that wait go out
passes_again : (held mid now : Option (List ℕ)) (bytes waited waiting : List ℕ)
    → PassesOn held mid bytes waited → PassesOn mid now waited waiting → PassesOn held now bytes waiting
passes_again held mid now bytes waited waiting p q = (
  p.0 ++ q.0,
  p.1 ∙ ap (λ xs. p.0 ++ xs) q.1 ∙ sym (append_assoc p.0 q.0 waiting),
  q.2 ∙ ap (λ known. append_known known q.0) p.2 ∙ append_known-append held p.0 q.0,
)

-- a front of what waits and of more bytes is a front of all
loses_more : (held mid now : Option (List ℕ)) (bytes more waited : List ℕ)
    → PassesOn held mid bytes waited → GainsPart mid now (waited ++ more) → GainsPart held now (bytes ++ more)
loses_more held mid now bytes more waited p q = (
  p.0 ++ q.0,
  q.1,
  ap (λ xs. xs ++ more) p.1 ∙ append_assoc p.0 waited more ∙ ap (λ xs. p.0 ++ xs) q.2 ∙ sym (append_assoc p.0 q.0 q.1),
  q.3 ∙ ap (λ known. append_known known q.0) p.2 ∙ append_known-append held p.0 q.0,
)

-- a request was read as a message spells it, which was taken from the front of what was left
abbrev pub WasTaken : ℕ → ℕ → Option (List ℕ) → Option (List ℕ) → Request → Type 0
WasTaken place next old new read =
    (message : Message) × IsRead read (request_of message) × Takes place old new message × (next ≡ place + length (print_message message))

-- whatever request this one stands for, it was answered, and the reply was written behind what waited, or a front of both
abbrev pub IsWritten : {S : Type 0} → Meaning S → Result (Unit {0}) End → S → S → Option (List ℕ) → Option (List ℕ) → List ℕ → List ℕ → Request → Type 0
IsWritten answers result before after held gained waited waiting read =
    (spelled : Request) → IsRead read spelled
    → (reply : Reply) × answers before spelled reply after
    × MatchResult result (λ _. PassesOn held gained (waited ++ reply_text reply) waiting) (λ _. GainsPart held gained (waited ++ reply_text reply))

served_turn : {S : Type 0} (answers : Meaning S) (result : Result (Unit {0}) End) (place next : ℕ) (old new : Option (List ℕ)) (before after : S) (held gained : Option (List ℕ)) (waited waiting : List ℕ) (read : Request)
    → WasTaken place next old new read
    → IsWritten answers result before after held gained waited waiting read
    → OnOk result (TakesTurn answers place next old new before after held gained waited waiting)
served_turn answers (Ok done) place next old new before after held gained waited waiting read taken written =
    let (message, spells, takes, reached) = taken in
    let (reply, answered, passes) = written (request_of message) spells in
    (message, reply, record { takes = takes; answered = answered }, reached, passes)
served_turn answers (Err end) place next old new before after held gained waited waiting read taken written = tt

-- a message was taken and its request answered, and the reply went behind what waited: a turn
pub taken_turn : {S : Type 0} (answers : Meaning S) (result : Result (Unit {0}) End) (place next : ℕ) (old new : Option (List ℕ)) (before after : S) (held gained : Option (List ℕ)) (waited waiting : List ℕ)
    (found : Option Request) (read : Request)
    → found ≡ Some read → IfSome found (WasTaken place next old new)
    → IsWritten answers result before after held gained waited waiting read
    → OnOk result (TakesTurn answers place next old new before after held gained waited waiting)
taken_turn answers result place next old new before after held gained waited waiting found read is taken =
    served_turn answers result place next old new before after held gained waited waiting read (subst (λ (o : Option Request). IfSome o (WasTaken place next old new)) is taken)

lost_turn : {S : Type 0} (answers : Meaning S) (result : Result (Unit {0}) End) (place next : ℕ) (old new rest : Option (List ℕ)) (before after : S) (held gained : Option (List ℕ)) (waited waiting : List ℕ) (read : Request)
    → WasTaken place next old new read
    → IsWritten answers result before after held gained waited waiting read
    → IfErr result (λ end. end ≡ WriteFault) → OnErr result (waiting ≡ [])
    → IfErr result (λ end. EndsTurn answers end place old rest before after held gained waited waiting)
lost_turn answers (Ok done) place next old new rest before after held gained waited waiting read taken written fault dropped = tt
lost_turn answers (Err end) place next old new rest before after held gained waited waiting read taken written fault dropped =
    let (message, spells, takes, reached) = taken in
    let (reply, answered, part) = written (request_of message) spells in
    subst (λ e. EndsTurn answers e place old rest before after held gained waited waiting) (sym fault)
    ((message, reply, new, record { takes = takes; answered = answered }, part), dropped)

-- a message was taken and its request answered, and the reply wasn't written: the turn ends the loop
pub ended_turn : {S : Type 0} (answers : Meaning S) (result : Result (Unit {0}) End) (place next : ℕ) (old new rest : Option (List ℕ)) (before after : S) (held gained : Option (List ℕ)) (waited waiting : List ℕ)
    (found : Option Request) (read : Request)
    → found ≡ Some read → IfSome found (WasTaken place next old new)
    → IsWritten answers result before after held gained waited waiting read
    → IfErr result (λ end. end ≡ WriteFault) → OnErr result (waiting ≡ [])
    → IfErr result (λ end. EndsTurn answers end place old rest before after held gained waited waiting)
ended_turn answers result place next old new rest before after held gained waited waiting found read is taken =
    lost_turn answers result place next old new rest before after held gained waited waiting read (subst (λ (o : Option Request). IfSome o (WasTaken place next old new)) is taken)

-- before the first turn
pub at_first : {S : Type 0} (answers : Meaning S) (opened : S) (first held : Option (List ℕ)) (room : Held) (waiting : List ℕ)
    → room ≡ record { held = []; place = 0 } → waiting ≡ []
    → SoFar answers opened opened first (stream room first) room.place held held waiting
at_first answers opened first held room waiting empty none = record {
  messages = [];
  replies = [];
  taken = sym (prepend_known-nil first) ∙ ap (λ (r : Held). prepend_known r.held first) (sym empty);
  reached = ap (λ (r : Held). r.place) empty;
  answered = refl;
  written = ([], sym none, sym (nothing_more held));
}
  where
    nothing_more : (known : Option (List ℕ)) → append_known known [] ≡ known
    nothing_more None = refl
    nothing_more (Some xs) = ap Some (append-nil xs)

-- what waited went out
pub after_emptying : {S : Type 0} (answers : Meaning S) (before after : S) (first now : Option (List ℕ)) (place : ℕ) (held gained next : Option (List ℕ)) (waited waiting : List ℕ)
    → SoFar answers before after first now place held gained waited → PassesOn gained next waited waiting
    → SoFar answers before after first now place held next waiting
after_emptying answers before after first now place held gained next waited waiting s p = record {
  messages = s.messages;
  replies = s.replies;
  taken = s.taken;
  reached = s.reached;
  answered = s.answered;
  written = passes_again held gained next (texts_of s.replies) waited waiting s.written p;
}

-- one message more, with the reply to its request
pub one_turn : {S : Type 0} (answers : Meaning S) (before mid after : S) (first now next : Option (List ℕ)) (place reached : ℕ) (held gained wrote : Option (List ℕ)) (waited waiting : List ℕ)
    → SoFar answers before mid first now place held gained waited → TakesTurn answers place reached now next mid after gained wrote waited waiting
    → SoFar answers before after first next reached held wrote waiting
one_turn answers before mid after first now next place reached held gained wrote waited waiting s t =
    let m : Message = t.0 in record {
      messages = s.messages ++ m ∷ [];
      replies = s.replies ++ t.1 ∷ [];
      taken = TakesAll-push 0 first now next s.messages m s.taken (subst (λ p. Takes p now next m) s.reached t.2.takes);
      reached = t.3 ∙ ap (λ p. p + length (print_message m)) s.reached ∙ sym (place_after-push 0 s.messages m);
      answered = AreAnswered-push answers before mid after s.messages s.replies m t.1 s.answered t.2.answered;
      written = subst (λ bytes. PassesOn held wrote bytes waiting) (sym (texts_of-push s.replies t.1))
          (passes_more held gained wrote (texts_of s.replies) (reply_text t.1) waited waiting s.written t.4);
    }

-- a write that fails while what waited goes out cuts the texts short
pub cut_emptying : {S : Type 0} (answers : Meaning S) (before after : S) (first now : Option (List ℕ)) (place : ℕ) (held gained wrote : Option (List ℕ)) (waited : List ℕ)
    → SoFar answers before after first now place held gained waited → GainsPart gained wrote waited
    → IsCutShort (AreAnswered answers before after) first held wrote
cut_emptying answers before after first now place held gained wrote waited s p =
    let lost : GainsPart held wrote (texts_of s.replies) =
    subst (GainsPart held wrote) (append-nil (texts_of s.replies))
    (loses_more held gained wrote (texts_of s.replies) [] waited s.written (subst (GainsPart gained wrote) (sym (append-nil waited)) p)) in
    (s.messages, s.replies, now, lost.0, lost.1, s.taken, s.answered, lost.2, lost.3)

-- and so does one that fails at the reply of the last turn
pub cut_turn : {S : Type 0} (answers : Meaning S) (before mid after : S) (first now : Option (List ℕ)) (place : ℕ) (held gained wrote : Option (List ℕ)) (waited : List ℕ)
    → SoFar answers before mid first now place held gained waited → LosesTurn answers place now mid after gained wrote waited
    → IsCutShort (AreAnswered answers before after) first held wrote
cut_turn answers before mid after first now place held gained wrote waited s t =
    let m : Message = t.0 in
    let lost : GainsPart held wrote (texts_of s.replies ++ reply_text t.1) =
    loses_more held gained wrote (texts_of s.replies) (reply_text t.1) waited s.written t.4 in (
      s.messages ++ m ∷ [],
      s.replies ++ t.1 ∷ [],
      t.2,
      lost.0,
      lost.1,
      TakesAll-push 0 first now t.2 s.messages m s.taken (subst (λ p. Takes p now t.2 m) s.reached t.3.takes),
      AreAnswered-push answers before mid after s.messages s.replies m t.1 s.answered t.3.answered,
      texts_of-push s.replies t.1 ∙ lost.2,
      lost.3,
    )

-- the loop stops where a turn finds no further message
stopped : {S : Type 0} (answers : Meaning S) (end : End) (before mid after : S) (first now rest : Option (List ℕ)) (place : ℕ) (held gained wrote : Option (List ℕ)) (waited waiting : List ℕ)
    → SoFar answers before mid first now place held gained waited → HasReason end place now rest → Stays mid after gained wrote waited waiting
    → Stops answers end before after first rest held wrote waiting
stopped answers end before mid after first now rest place held gained wrote waited waiting s reason stays = (
  now,
  place,
  subst (λ a. SoFar answers before a first now place held wrote waiting) (sym stays.0)
      (subst (λ w. SoFar answers before mid first now place held wrote w) (sym stays.2)
      (subst (λ g. SoFar answers before mid first now place held g waited) (sym stays.1) s)),
  reason,
)

-- the last turn ends the loop
pub last_turn : {S : Type 0} (answers : Meaning S) (end : End) (before mid after : S) (first now rest : Option (List ℕ)) (place : ℕ) (held gained wrote : Option (List ℕ)) (waited waiting : List ℕ)
    → SoFar answers before mid first now place held gained waited → EndsTurn answers end place now rest mid after gained wrote waited waiting
    → EndsLoop answers end before after first rest held wrote waiting
last_turn answers Closed before mid after first now rest place held gained wrote waited waiting s t =
    stopped answers Closed before mid after first now rest place held gained wrote waited waiting s t.0 t.1
last_turn answers ReadFault before mid after first now rest place held gained wrote waited waiting s t =
    stopped answers ReadFault before mid after first now rest place held gained wrote waited waiting s t.0 t.1
last_turn answers WriteFault before mid after first now rest place held gained wrote waited waiting s t =
    (cut_turn answers before mid after first now place held gained wrote waited s t.0, t.1)
last_turn answers (NotAMessage told) before mid after first now rest place held gained wrote waited waiting s t =
    stopped answers (NotAMessage told) before mid after first now rest place held gained wrote waited waiting s t.0 t.1
