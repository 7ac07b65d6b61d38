-- How a stream ended: what was read of it, what was answered, and what was written.
use Rattle.std.specs.Prelude.{◌≡◌, ◌≢◌, ℕ, List, [], ◌++◌, Option, IfSome}
use Rattle.std.specs.Io.KnownBytes.{append_known, prepend_known, IsAtEnd}
use Rattle.outside_core.specs.Failed.{Rose}
use Rattle.org_requests.specs.declared.replies.Reply.{Reply}
use Rattle.http_wire.specs.Message.{Message}
use Rattle.http_wire.specs.Splits.{Splits, TakesAll, place_after}
use Rattle.answer_stream.specs.declared.ends.End.{End}
use Rattle.answer_stream.specs.declared.ends.End.TheVariants.{Closed, ReadFault, WriteFault, NotAMessage}
use Rattle.answer_stream.specs.Answering.{texts_of}

-- what makes some replies those to some messages
abbrev pub RepliesTo : Type 1
RepliesTo = List Message → List Reply → Type 0

-- what was left splits into these messages and this rest, and what was gained since is the texts of the replies to all
-- of them
pub record AnswersAll (answered : RepliesTo) (left held now : Option (List ℕ)) (messages : List Message) (replies : List Reply) (rest : List ℕ) : Type 0 where
  pub split : IfSome left (λ bytes. Splits 0 bytes messages rest)
  pub answers : answered messages replies
  pub written : now ≡ append_known held (texts_of replies)

-- the input was read to its end, and all of it was answered
abbrev pub IsAnswered : RepliesTo → Option (List ℕ) → Option (List ℕ) → Option (List ℕ) → Option (List ℕ) → Type 0
IsAnswered answered left rest held now =
    (messages : List Message) × (replies : List Reply) × AnswersAll answered left held now messages replies [] × IsAtEnd rest

-- the whole messages were answered, and what follows them, at this place, isn't nothing and begins no message
abbrev pub IsAnsweredToRest : RepliesTo → ℕ → Option (List ℕ) → Option (List ℕ) → Option (List ℕ) → Type 0
IsAnsweredToRest answered place left held now =
    (messages : List Message) × (replies : List Reply) × (rest : List ℕ)
    × AnswersAll answered left held now messages replies rest × (rest ≢ []) × (place ≡ place_after 0 messages)

-- the bytes that were taken until a read failed split so, and the whole messages were answered
abbrev pub IsAnsweredUpTo : RepliesTo → Option (List ℕ) → Option (List ℕ) → Option (List ℕ) → Option (List ℕ) → Type 0
IsAnsweredUpTo answered left rest held now =
    (messages : List Message) × (replies : List Reply) × (taken part : List ℕ)
    × (left ≡ prepend_known taken rest) × Splits 0 taken messages part
    × answered messages replies × (now ≡ append_known held (texts_of replies))

-- these messages came first, one reply was made for each, and what was written is a front of their texts
abbrev pub IsCutShort : RepliesTo → Option (List ℕ) → Option (List ℕ) → Option (List ℕ) → Type 0
IsCutShort answered left held now =
    (messages : List Message) × (replies : List Reply) × (rest : Option (List ℕ)) × (part lost : List ℕ)
    × TakesAll 0 left rest messages × answered messages replies
    × (texts_of replies ≡ part ++ lost) × (now ≡ append_known held part)

-- how a stream ended whose messages are answered so: `left` and `rest` are what the input had before and has after,
-- `held` and `now` what the output had and has
abbrev pub EndsStream : End → RepliesTo → Option (List ℕ) → Option (List ℕ) → Option (List ℕ) → Option (List ℕ) → Type 0
EndsStream Closed answered left rest held now = IsAnswered answered left rest held now
EndsStream ReadFault answered left rest held now = IsAnsweredUpTo answered left rest held now
EndsStream WriteFault answered left rest held now = IsCutShort answered left held now
EndsStream (NotAMessage place) answered left rest held now = IsAnsweredToRest answered place left held now

-- a fault comes only where its count rose
abbrev pub HasFaultCause : End → ℕ → ℕ → ℕ → ℕ → Type 0
HasFaultCause Closed read_before read_now written_before written_now = Unit {0}
HasFaultCause ReadFault read_before read_now written_before written_now = Rose read_before read_now
HasFaultCause WriteFault read_before read_now written_before written_now = Rose written_before written_now
HasFaultCause (NotAMessage told) read_before read_now written_before written_now = Unit {0}
