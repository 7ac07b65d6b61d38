-- What an answerer does with several requests, one after another.
use Rattle.std.specs.Prelude.{◌≡◌, ℕ, List, [], ◌∷◌, map}
use Rattle.std.specs.List.{flat_map}
use Rattle.org_requests.specs.declared.replies.Reply.{Reply}
use Rattle.org_requests.specs.declared.requests.Request.{Request}
use Rattle.http_wire.specs.Message.{Message}
use Rattle.http_wire.specs.Requests.{request_of}
use Rattle.http_wire.specs.Replies.{reply_text}

-- what it means that an answerer answers: from the first value this reply to this request leads to the second
abbrev pub Meaning : Type 0 → Type 1
Meaning S = S → Request → Reply → S → Type 0

-- one reply to each request, in order: each leads on from the value that the one before led to
abbrev pub AnswersEach : {S : Type 0} → Meaning S → S → List Request → List Reply → S → Type 0
AnswersEach answers before [] [] after = after ≡ before
AnswersEach answers before [] (reply ∷ replies) after = ⊥
AnswersEach answers before (request ∷ requests) [] after = ⊥
AnswersEach {S} answers before (request ∷ requests) (reply ∷ replies) after =
    (next : S) × answers before request reply next × AnswersEach answers next requests replies after

-- one reply to the request that each message spells, in order
abbrev pub AreAnswered : {S : Type 0} → Meaning S → S → S → List Message → List Reply → Type 0
AreAnswered answers before after messages replies = AnswersEach answers before (map request_of messages) replies after

-- the texts of the replies, in order
abbrev pub texts_of : List Reply → List ℕ
texts_of replies = flat_map reply_text replies
