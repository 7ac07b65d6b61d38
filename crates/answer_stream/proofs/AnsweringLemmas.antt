-- What an answerer does goes on with one request more.
use Rattle.std.proofs.Common.{◌≡◌, List, [], ◌∷◌, ◌++◌, map, sym, ap, subst, refl, ◌∙◌, append-nil}
use Rattle.std.proofs.lemmas.List.{map-append}
use Rattle.std.proofs.lemmas.List.Concat.{flat_map-append}
use Rattle.org_requests.specs.declared.replies.Reply.{Reply}
use Rattle.org_requests.specs.declared.requests.Request.{Request}
use Rattle.http_wire.specs.Message.{Message}
use Rattle.http_wire.specs.Requests.{request_of}
use Rattle.http_wire.specs.Replies.{reply_text}
use Rattle.answer_stream.specs.Answering.{Meaning, AnswersEach, AreAnswered, texts_of}

-- one reply more, to one request more
pub AnswersEach-push : {S : Type 0} (answers : Meaning S) (before mid after : S) (requests : List Request) (replies : List Reply) (request : Request) (reply : Reply)
    → AnswersEach answers before requests replies mid → answers mid request reply after
    → AnswersEach answers before (requests ++ request ∷ []) (replies ++ reply ∷ []) after
AnswersEach-push answers before mid after [] [] request reply so_far last = (after, subst (λ s. answers s request reply after) so_far last, refl)
AnswersEach-push answers before mid after [] (other ∷ replies) request reply so_far last = absurd so_far
AnswersEach-push answers before mid after (other ∷ requests) [] request reply so_far last = absurd so_far
AnswersEach-push answers before mid after (one ∷ requests) (its ∷ replies) request reply so_far last =
    (so_far.0, so_far.1, AnswersEach-push answers so_far.0 mid after requests replies request reply so_far.2 last)

-- one reply more, to the request of one message more
pub AreAnswered-push : {S : Type 0} (answers : Meaning S) (before mid after : S) (messages : List Message) (replies : List Reply) (message : Message) (reply : Reply)
    → AreAnswered answers before mid messages replies → answers mid (request_of message) reply after
    → AreAnswered answers before after (messages ++ message ∷ []) (replies ++ reply ∷ [])
AreAnswered-push answers before mid after messages replies message reply so_far last =
    subst (λ requests. AnswersEach answers before requests (replies ++ reply ∷ []) after) (sym (map-append request_of messages (message ∷ [])))
    (AnswersEach-push answers before mid after (map request_of messages) replies (request_of message) reply so_far last)

-- the texts of the replies, with one reply more
pub texts_of-push : (replies : List Reply) (reply : Reply) → texts_of (replies ++ reply ∷ []) ≡ texts_of replies ++ reply_text reply
texts_of-push replies reply =
    flat_map-append reply_text replies (reply ∷ []) ∙ ap (λ xs. texts_of replies ++ xs) (append-nil (reply_text reply))
