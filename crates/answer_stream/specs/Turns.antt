-- What the loop that answers a stream keeps from one message to the next.
use Rattle.std.specs.Prelude.{◌≡◌, ℕ, ◌+◌, ◌-◌, List, [], ◌++◌, length, Option}
use Rattle.std.specs.Io.KnownBytes.{prepend_known, IsAtEnd}
use Rattle.outside_core.specs.Sink.{GainsPart, PassesOn}
use Rattle.org_requests.specs.declared.replies.Reply.{Reply}
use Rattle.http_wire.specs.Held.{Held}
use Rattle.http_wire.specs.Message.{Message, print_message, BeginsNone, last_place}
use Rattle.http_wire.specs.Faults.{NoneBeginsIn}
use Rattle.http_wire.specs.Splits.{Takes, TakesAll, place_after}
use Rattle.http_wire.specs.Requests.{request_of}
use Rattle.http_wire.specs.Replies.{reply_text}
use Rattle.answer_stream.specs.declared.ends.End.{End}
use Rattle.answer_stream.specs.declared.ends.End.TheVariants.{Closed, ReadFault, WriteFault, NotAMessage}
use Rattle.answer_stream.specs.Answering.{Meaning, AreAnswered, texts_of}
use Rattle.answer_stream.specs.Ends.{IsCutShort}

-- one message was taken, and this is the reply to its request
pub record Turn {S : Type 0} (answers : Meaning S) (place : ℕ) (old new : Option (List ℕ)) (before after : S) (message : Message) (reply : Reply) : Type 0 where
  pub takes : Takes place old new message
  pub answered : answers before (request_of message) reply after

-- a turn: a message was taken and its reply went behind what waited
abbrev pub TakesTurn : {S : Type 0} → Meaning S → ℕ → ℕ → Option (List ℕ) → Option (List ℕ) → S → S → Option (List ℕ) → Option (List ℕ) → List ℕ → List ℕ → Type 0
TakesTurn answers place next old new before after held gained waited waiting =
    (message : Message) × (reply : Reply) × Turn answers place old new before after message reply
    × (next ≡ place + length (print_message message)) × PassesOn held gained (waited ++ reply_text reply) waiting

-- the last turn's message was taken, and of its reply and what waited only a front was written
abbrev pub LosesTurn : {S : Type 0} → Meaning S → ℕ → Option (List ℕ) → S → S → Option (List ℕ) → Option (List ℕ) → List ℕ → Type 0
LosesTurn answers place old before after held gained waited =
    (message : Message) × (reply : Reply) × (new : Option (List ℕ))
    × Turn answers place old new before after message reply × GainsPart held gained (waited ++ reply_text reply)

-- why there is no further message, by what was left of the stream and what the source has left
abbrev pub HasReason : End → ℕ → Option (List ℕ) → Option (List ℕ) → Type 0
HasReason Closed place left rest = IsAtEnd left × IsAtEnd rest
HasReason ReadFault place left rest = (taken : List ℕ) × (left ≡ prepend_known taken rest) × BeginsNone (last_place - place) taken
HasReason WriteFault place left rest = ⊥
HasReason (NotAMessage told) place left rest = (told ≡ place) × NoneBeginsIn place left

-- nothing was answered or written
abbrev pub Stays : {S : Type 0} → S → S → Option (List ℕ) → Option (List ℕ) → List ℕ → List ℕ → Type 0
Stays before after held gained waited waiting = (after ≡ before) × (gained ≡ held) × (waiting ≡ waited)

-- a turn that ends the loop
abbrev pub EndsTurn : {S : Type 0} → Meaning S → End → ℕ → Option (List ℕ) → Option (List ℕ) → S → S → Option (List ℕ) → Option (List ℕ) → List ℕ → List ℕ → Type 0
EndsTurn answers Closed place left rest before after held gained waited waiting =
    HasReason Closed place left rest × Stays before after held gained waited waiting
EndsTurn answers ReadFault place left rest before after held gained waited waiting =
    HasReason ReadFault place left rest × Stays before after held gained waited waiting
EndsTurn answers WriteFault place left rest before after held gained waited waiting =
    LosesTurn answers place left before after held gained waited × (waiting ≡ [])
EndsTurn answers (NotAMessage told) place left rest before after held gained waited waiting =
    HasReason (NotAMessage told) place left rest × Stays before after held gained waited waiting

-- where the room holds no whole message, so that the next one has to be read, no reply waits to be written
abbrev pub NothingWaits : Held → List ℕ → Type 0
NothingWaits room waiting = BeginsNone (last_place - room.place) room.held → waiting ≡ []

-- these messages were taken from the front of a stream, each was answered, and of the replies' texts the sink gained a
-- front, and the others wait
pub record SoFar {S : Type 0} (answers : Meaning S) (before after : S) (first now : Option (List ℕ)) (place : ℕ) (held gained : Option (List ℕ)) (waiting : List ℕ) : Type 0 where
  pub messages : List Message
  pub replies : List Reply
  pub taken : TakesAll 0 first now messages
  pub reached : place ≡ place_after 0 messages
  pub answered : AreAnswered answers before after messages replies
  pub written : PassesOn held gained (texts_of replies) waiting

-- the loop stopped with all whole messages answered
abbrev pub Stops : {S : Type 0} → Meaning S → End → S → S → Option (List ℕ) → Option (List ℕ) → Option (List ℕ) → Option (List ℕ) → List ℕ → Type 0
Stops answers end before after first rest held gained waiting =
    (now : Option (List ℕ)) × (place : ℕ)
    × SoFar answers before after first now place held gained waiting × HasReason end place now rest

-- how the loop ended, while some last replies may wait
abbrev pub EndsLoop : {S : Type 0} → Meaning S → End → S → S → Option (List ℕ) → Option (List ℕ) → Option (List ℕ) → Option (List ℕ) → List ℕ → Type 0
EndsLoop answers Closed before after first rest held gained waiting = Stops answers Closed before after first rest held gained waiting
EndsLoop answers ReadFault before after first rest held gained waiting = Stops answers ReadFault before after first rest held gained waiting
EndsLoop answers WriteFault before after first rest held gained waiting =
    IsCutShort (AreAnswered answers before after) first held gained × (waiting ≡ [])
EndsLoop answers (NotAMessage told) before after first rest held gained waiting =
    Stops answers (NotAMessage told) before after first rest held gained waiting
