-- Replies of a site are the small machine's, and have its bytes.
use Rattle.std.proofs.Common.{◌≡◌, ℕ, List, [], ◌∷◌, ◌++◌, map, sym, ap, subst, refl, ◌∙◌, append_assoc, append-nil}
use Rattle.std.specs.List.{flat_map}
use Rattle.org_requests.specs.declared.replies.Reply.{Reply}
use Rattle.org_requests.specs.declared.requests.Request.{Request}
use Rattle.org_core.specs.FullStates.{FullState, none}
use Rattle.org_machine.specs.Alone.{Exchange, Alone, RunsAlone, States, asked_in, own, nobody, replies_alone}
use Rattle.org_machine.specs.Serving.{Progress, Serves}
use Rattle.org_machine.proofs.Going.{none_yet, one_more}
use Rattle.org_machine.proofs.PermittingLemmas.{all_permitted}
use Rattle.http_wire.specs.Message.{Message}
use Rattle.http_wire.specs.Requests.{request_of}
use Rattle.http_wire.specs.Replies.{reply_text}
use Rattle.answer_stream.specs.Answering.{Meaning, AnswersEach, AreAnswered, texts_of}
use Rattle.chefsite.specs.Isolation.{reply_texts, bytes_alone, Answers}

-- the texts of the replies are those of the exchanges' replies
pub texts-map : (es : List Exchange) → reply_texts es ≡ flat_map reply_text (map (λ e. e.reply) es)
texts-map [] = refl
texts-map (e ∷ es) = ap (λ xs. reply_text e.reply ++ xs) (texts-map es)

-- the texts of the small machine's replies
texts_alone : (opened : FullState) (es : List Exchange) → RunsAlone opened es
    → reply_texts es ≡ flat_map reply_text (replies_alone opened (map asked_in es))
texts_alone opened es runs = texts-map es ∙ ap (flat_map reply_text) runs.replies

-- the bytes are said once the replies are
pub answered : (ms : List Message) (es : List Exchange) → map (λ e. e.request) es ≡ map request_of ms → Alone nobody es → Answers ms es
answered ms es requests alone = record {
  requests = requests;
  alone = alone;
  permitted = λ name. all_permitted none (own name es) (alone.each name);
  bytes = λ name. texts_alone none (own name es) (alone.each name);
  worlds = λ name others there same.
      texts_alone none (own name others) (there.each name)
      ∙ ap bytes_alone same
      ∙ sym (texts_alone none (own name es) (alone.each name));
}

-- an answerer that serves each request in the states that it has
abbrev pub serving : {S : Type 0} → (S → States) → Meaning S
serving states = λ before request reply after. Serves (states before) request reply (states after)

-- its replies to some requests are exchanges, which were answered alone where those before them were
served_alone : {S : Type 0} (states : S → States) (before after : S) (requests : List Request) (replies : List Reply) (done : List Exchange)
    → Progress nobody done (states before) → AnswersEach (serving states) before requests replies after
    → (more : List Exchange) × (map (λ (e : Exchange). e.request) more ≡ requests) × (map (λ (e : Exchange). e.reply) more ≡ replies) × Alone nobody (done ++ more)
served_alone states before after [] [] done so_far each = ([], refl, refl, subst (Alone nobody) (sym (append-nil done)) so_far.alone)
served_alone states before after [] (reply ∷ replies) done so_far each = absurd each
served_alone states before after (request ∷ requests) [] done so_far each = absurd each
served_alone states before after (request ∷ requests) (reply ∷ replies) done so_far each =
    let e : Exchange = record { request = request; reply = reply } in
    let rest = served_alone states each.0 after requests replies (done ++ e ∷ []) (one_more e so_far each.1) each.2 in (
      e ∷ rest.0,
      ap (λ rs. request ∷ rs) rest.1,
      ap (λ rs. reply ∷ rs) rest.2,
      subst (Alone nobody) (append_assoc done (e ∷ []) rest.0) rest.3,
    )

-- its replies to some messages, from no organisation on, are exchanges that answer these
pub exchanged : {S : Type 0} (states : S → States) (before after : S) → ((name : List ℕ) → states before name ≡ none)
    → (messages : List Message) (replies : List Reply) → AreAnswered (serving states) before after messages replies
    → (exchanges : List Exchange) × Answers messages exchanges × (reply_texts exchanges ≡ texts_of replies)
exchanged states before after absent messages replies each =
    let first : Progress nobody [] (states before) = subst (λ s. Progress nobody [] s) (λ i name. sym (absent name) i) (none_yet nobody) in
    let all = served_alone states before after (map request_of messages) replies [] first each in
    (all.0, answered messages all.0 all.1 all.3, texts-map all.0 ∙ ap (flat_map reply_text) all.2)
