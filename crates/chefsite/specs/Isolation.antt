-- The isolation theorem over bytes: what a run read, what it answered, and what it wrote.
use Rattle.std.specs.Prelude.{◌≡◌, ◌≢◌, ℕ, List, [], ◌++◌, map, Option, IfSome}
use Rattle.std.specs.List.{flat_map}
use Rattle.std.specs.Io.KnownBytes.{append_known, prepend_known, IsAtEnd}
use Rattle.org_core.specs.FullStates.{none}
use Rattle.org_machine.specs.Alone.{Exchange, Asked, Alone, asked_in, own, nobody, replies_alone}
use Rattle.org_machine.specs.Permitting.{ArePermittedExactly}
use Rattle.http_wire.specs.Message.{Message}
use Rattle.http_wire.specs.Splits.{Splits, TakesAll, place_after}
use Rattle.http_wire.specs.Requests.{request_of}
use Rattle.http_wire.specs.Replies.{reply_text}

-- the texts of the replies, in order
abbrev pub reply_texts : List Exchange → List ℕ
reply_texts exchanges = flat_map (λ e. reply_text e.reply) exchanges

-- the bytes answered to one organisation
abbrev pub bytes_to : List ℕ → List Exchange → List ℕ
bytes_to name exchanges = reply_texts (own name exchanges)

-- the bytes that the small machine answers, given these requests and what befell them alone, from no organisation on
abbrev pub bytes_alone : List Asked → List ℕ
bytes_alone asked = flat_map reply_text (replies_alone none asked)

-- one reply to the request that each message spells, in order, and to each organisation those of the
-- small machine that is given its own requests alone
pub record Answers (messages : List Message) (exchanges : List Exchange) : Type 0 where
  pub requests : map (λ e. e.request) exchanges ≡ map request_of messages
  pub alone : Alone nobody exchanges
  -- each request of an organisation is permitted exactly by its lists: 403 exactly where they don't permit what it needs
  pub permitted : (name : List ℕ) → ArePermittedExactly none (own name exchanges)
  -- so the bytes answered to an organisation are those of the small machine, whatever the others asked
  pub bytes : (name : List ℕ) → bytes_to name exchanges ≡ bytes_alone (map asked_in (own name exchanges))
  -- and two worlds that agree on its own requests and on what befell them give it equal bytes
  pub worlds : (name : List ℕ) (others : List Exchange) → Alone nobody others
      → map asked_in (own name others) ≡ map asked_in (own name exchanges) → bytes_to name others ≡ bytes_to name exchanges

-- what was left splits into these messages and this rest, and what was gained since is the texts of
-- the replies to all of them
pub record AnswersAll (left held now : Option (List ℕ)) (messages : List Message) (exchanges : List Exchange) (rest : List ℕ) : Type 0 where
  pub split : IfSome left (λ bytes. Splits 0 bytes messages rest)
  pub answers : Answers messages exchanges
  pub written : now ≡ append_known held (reply_texts exchanges)

-- the input was read to its end, and all of it was answered
abbrev pub IsAnswered : Option (List ℕ) → Option (List ℕ) → Option (List ℕ) → Option (List ℕ) → Type 0
IsAnswered left rest held now =
    (messages : List Message) × (exchanges : List Exchange) × AnswersAll left held now messages exchanges [] × IsAtEnd rest

-- the whole messages were answered, and what follows them, at this place, isn't nothing and begins no message
abbrev pub IsAnsweredToRest : ℕ → Option (List ℕ) → Option (List ℕ) → Option (List ℕ) → Type 0
IsAnsweredToRest place left held now =
    (messages : List Message) × (exchanges : List Exchange) × (rest : List ℕ)
    × AnswersAll left held now messages exchanges rest × (rest ≢ []) × (place ≡ place_after 0 messages)

-- the bytes that were taken until a read failed split so, and the whole messages were answered
abbrev pub IsAnsweredUpTo : Option (List ℕ) → Option (List ℕ) → Option (List ℕ) → Option (List ℕ) → Type 0
IsAnsweredUpTo left rest held now =
    (messages : List Message) × (exchanges : List Exchange) × (taken part : List ℕ)
    × (left ≡ prepend_known taken rest) × Splits 0 taken messages part
    × Answers messages exchanges × (now ≡ append_known held (reply_texts exchanges))

-- these messages came first, one reply was made for each, and what was written is a front of their texts
abbrev pub IsCutShort : Option (List ℕ) → Option (List ℕ) → Option (List ℕ) → Type 0
IsCutShort left held now =
    (messages : List Message) × (exchanges : List Exchange) × (rest : Option (List ℕ)) × (part lost : List ℕ)
    × TakesAll 0 left rest messages × Answers messages exchanges
    × (reply_texts exchanges ≡ part ++ lost) × (now ≡ append_known held part)
