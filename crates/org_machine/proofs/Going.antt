-- What keeps the isolation theorem as a stream of exchanges goes on: no exchange at all, and one more.
use Rattle.std.proofs.Common.{◌≡◌, ℕ, Bool, true, false, cond, List, [], ◌∷◌, ◌++◌, map, Option, Some, None, sym, ap, refl, subst, ◌∙◌, append_assoc, append-nil, true≢false}
use Rattle.std.specs.Cmp.Lexicographic.{bytes_decides}
use Rattle.std.proofs.lemmas.List.{map-append}
use Rattle.std.proofs.lemmas.List.Elements.{filter-append}
use Rattle.org_requests.specs.declared.replies.Reply.{Reply}
use Rattle.org_requests.specs.declared.requests.Request.{Request}
use Rattle.org_requests.specs.Requests.{org_of, has_name, is_of}
use Rattle.org_core.specs.FullStates.{FullState}
use Rattle.org_machine.specs.Marks.{mark_of, answer, after, IsLawful}
use Rattle.org_machine.specs.Alone.{Exchange, Asked, asked_in, own, replies_alone, state_alone, MarksAreLawful, RunsAlone, States, OutsideAnswer, OutsideAnswered, states_after, Alone}
use Rattle.org_machine.specs.Serving.{OwnAnswer, Serves, Progress}

-- the small machine answers one request more from the state in which it ended
pub replies_alone-push : (state : FullState) (all : List Asked) (next : Asked)
    → replies_alone state (all ++ next ∷ []) ≡ replies_alone state all ++ answer next.mark next.request (state_alone state all) ∷ []
replies_alone-push state [] next = refl
replies_alone-push state (asked ∷ rest) next =
    ap (λ replies. answer asked.mark asked.request state ∷ replies) (replies_alone-push (after asked.mark asked.request state) rest next)

-- and ends in the state that this one leaves
pub state_alone-push : (state : FullState) (all : List Asked) (next : Asked)
    → state_alone state (all ++ next ∷ []) ≡ after next.mark next.request (state_alone state all)
state_alone-push state [] next = refl
state_alone-push state (asked ∷ rest) next = state_alone-push (after asked.mark asked.request state) rest next

-- one lawful mark more
pub MarksAreLawful-push : (state : FullState) (all : List Asked) (next : Asked)
    → MarksAreLawful state all → IsLawful next.mark next.request (state_alone state all) → MarksAreLawful state (all ++ next ∷ [])
MarksAreLawful-push state [] next before last = (last, tt)
MarksAreLawful-push state (asked ∷ rest) next before last =
    (before.0, MarksAreLawful-push (after asked.mark asked.request state) rest next before.1 last)

-- one organisation's exchanges are those of the small machine, which ends in this state
record Part (opened now : FullState) (es : List Exchange) : Type 0 where
  runs : RunsAlone opened es
  state : now ≡ state_alone opened (map asked_in es)

-- one exchange more is the small machine's, in the state in which it ended
runs_more : (opened now : FullState) (es : List Exchange) (e : Exchange) → RunsAlone opened es → now ≡ state_alone opened (map asked_in es)
    → e.reply ≡ answer (mark_of e.reply) e.request now → IsLawful (mark_of e.reply) e.request now → RunsAlone opened (es ++ e ∷ [])
runs_more opened now es e runs state reply lawful =
    let all = map asked_in es in
    let next = asked_in e in
    let more = map-append asked_in es (e ∷ []) in
    record {
      replies =
          map-append (λ (x : Exchange). x.reply) es (e ∷ [])
          ∙ (λ i. runs.replies i ++ (reply ∙ ap (answer next.mark next.request) state) i ∷ [])
          ∙ sym (replies_alone-push opened all next)
          ∙ ap (replies_alone opened) (sym more);
      lawful =
          subst (MarksAreLawful opened) (sym more)
          (MarksAreLawful-push opened all next runs.lawful (subst (IsLawful next.mark next.request) state lawful));
    }

-- so an organisation's part goes on by its own request, and stays at another's
part_more : (opened old : FullState) (es : List Exchange) (e : Exchange) (is_own : Bool) → Part opened old es
    → (is_own ≡ true → (e.reply ≡ answer (mark_of e.reply) e.request old) × IsLawful (mark_of e.reply) e.request old)
    → Part opened (cond is_own (after (mark_of e.reply) e.request old) old) (es ++ cond is_own (e ∷ []) [])
part_more opened old es e true part answered =
    let next = asked_in e in
    record {
      runs = runs_more opened old es e part.runs part.state (answered refl).0 (answered refl).1;
      state =
          ap (after next.mark next.request) part.state
          ∙ sym (state_alone-push opened (map asked_in es) next)
          ∙ ap (state_alone opened) (sym (map-append asked_in es (e ∷ [])));
    }
part_more opened old es e false part answered = subst (Part opened old) (sym (append-nil es)) part

-- a request of the organisation of this name is answered from its state
own_answer : (old : States) (name : List ℕ) (org : Option (List ℕ)) (request : Request) (reply : Reply) → OwnAnswer old org request reply
    → has_name name org ≡ true → (reply ≡ answer (mark_of reply) request (old name)) × IsLawful (mark_of reply) request (old name)
own_answer old name None request reply answered is = absurd (true≢false (sym is))
own_answer old name (Some org) request reply answered is =
    subst (λ n. (reply ≡ answer (mark_of reply) request (old n)) × IsLawful (mark_of reply) request (old n))
    (sym ((bytes_decides name org).0 is)) answered

-- one organisation's own exchanges after one more
own-push : (name : List ℕ) (es : List Exchange) (e : Exchange) → own name (es ++ e ∷ []) ≡ own name es ++ cond (is_of name e.request) (e ∷ []) []
own-push name es e = filter-append (λ (x : Exchange). is_of name x.request) es (e ∷ [])

-- one request of no organisation more, answered in the states at its place
OutsideAnswered-push : (opened : States) (done es : List Exchange) (e : Exchange) → OutsideAnswered opened done es
    → OutsideAnswer (states_after opened (done ++ es)) (org_of e.request) e.request e.reply → OutsideAnswered opened done (es ++ e ∷ [])
OutsideAnswered-push opened done [] e before last =
    (subst (λ all. OutsideAnswer (states_after opened all) (org_of e.request) e.request e.reply) (append-nil done) last, tt)
OutsideAnswered-push opened done (x ∷ rest) e before last = (
  before.0,
  OutsideAnswered-push opened (done ++ x ∷ []) rest e before.1
      (subst (λ all. OutsideAnswer (states_after opened all) (org_of e.request) e.request e.reply) (sym (append_assoc done (x ∷ []) rest)) last),
)

-- where these exchanges went well and one more is served in the states that they left, all of them went well
pub one_more : {opened old new : States} {es : List Exchange} (e : Exchange)
    → Progress opened es old → Serves old e.request e.reply new → Progress opened (es ++ e ∷ []) new
one_more {opened} {old} {new} {es} e so_far served =
    let part : (name : List ℕ) → Part (opened name) (cond (is_of name e.request) (after (mark_of e.reply) e.request (old name)) (old name)) (own name es ++ cond (is_of name e.request) (e ∷ []) []) =
    λ name. part_more (opened name) (old name) (own name es) e (is_of name e.request)
    (record { runs = so_far.alone.each name; state = so_far.states name })
    (own_answer old name (org_of e.request) e.request e.reply served.own) in
    record {
      alone = record {
        each = λ name. subst (RunsAlone (opened name)) (sym (own-push name es e)) (part name).runs;
        others =
            OutsideAnswered-push opened [] es e so_far.alone.others
            (subst (λ states. OutsideAnswer states (org_of e.request) e.request e.reply) (λ i name. so_far.states name i) served.outside);
      };
      states = λ name.
          served.states name
          ∙ (part name).state
          ∙ ap (λ all. state_alone (opened name) (map asked_in all)) (sym (own-push name es e));
    }

-- before the first exchange
pub none_yet : (opened : States) → Progress opened [] opened
none_yet opened = record {
  alone = record { each = λ name. record { replies = refl; lawful = tt }; others = tt };
  states = λ name. refl;
}

-- two streams that agree on one organisation's own requests, on what befell them and on its opened
-- state give it equal replies
pub same_replies : (opened other : States) (es fs : List Exchange) (name : List ℕ) → Alone opened es → Alone other fs
    → opened name ≡ other name → map asked_in (own name es) ≡ map asked_in (own name fs)
    → map (λ e. e.reply) (own name es) ≡ map (λ e. e.reply) (own name fs)
same_replies opened other es fs name alone there same_opened same_asked =
    (alone.each name).replies
    ∙ (λ i. replies_alone (same_opened i) (same_asked i))
    ∙ sym (there.each name).replies
