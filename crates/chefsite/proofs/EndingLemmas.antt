-- What a stream that a site answered comes to, status by status.
use Rattle.std.proofs.Common.{◌≡◌, ℕ, List, [], Option, sym, ap, subst, refl, ◌∙◌, inl, inr}
use Rattle.std.specs.Option.{IfSome}
use Rattle.std.specs.Io.KnownBytes.{append_known}
use Rattle.org_core.specs.FullStates.{none}
use Rattle.org_requests.specs.declared.replies.Reply.{Reply}
use Rattle.org_machine.specs.Alone.{Exchange, States}
use Rattle.http_wire.specs.Message.{Message}
use Rattle.http_wire.specs.Splits.{Splits, place_after}
use Rattle.http_wire.proofs.SplitsLemmas.{Splits-unique}
use Rattle.answer_stream.specs.declared.ends.End.{End}
use Rattle.answer_stream.specs.declared.ends.End.TheVariants.{Closed, ReadFault, WriteFault, NotAMessage}
use Rattle.answer_stream.specs.Answering.{AreAnswered, texts_of}
use Rattle.answer_stream.specs.Ends as stream
use Rattle.answer_stream.specs.Ends.{RepliesTo, EndsStream, HasFaultCause}
use Rattle.chefsite.specs.declared.statuses.Status.{Status}
use Rattle.chefsite.specs.declared.statuses.Status.TheVariants as status
use Rattle.chefsite.specs.Isolation.{reply_texts, Answers, IsAnswered, IsAnsweredToRest, IsAnsweredUpTo, IsCutShort}
use Rattle.chefsite.specs.Endings.{Says, HasStatusCause, TellsRest, IsComplete, status_of}
use Rattle.chefsite.proofs.AloneLemmas.{exchanged, serving}

-- replies that are those to some messages are exchanges that answer these
abbrev AreExchanges : RepliesTo → Type 0
AreExchanges answered =
    (messages : List Message) (replies : List Reply) → answered messages replies
    → (exchanges : List Exchange) × Answers messages exchanges × (reply_texts exchanges ≡ texts_of replies)

-- the input was read to its end
says_closed : (answered : RepliesTo) (left rest held now : Option (List ℕ)) → AreExchanges answered
    → stream.IsAnswered answered left rest held now → IsAnswered left rest held now
says_closed answered left rest held now are all =
    let e = are all.0 all.1 all.2.answers in (
      all.0,
      e.0,
      record { split = all.2.split; answers = e.1; written = all.2.written ∙ ap (append_known held) (sym e.2) },
      all.3,
    )

-- what follows the whole messages is none
says_not_a_message : (answered : RepliesTo) (place : ℕ) (left held now : Option (List ℕ)) → AreExchanges answered
    → stream.IsAnsweredToRest answered place left held now → IsAnsweredToRest place left held now
says_not_a_message answered place left held now are all =
    let e = are all.0 all.1 all.3.answers in (
      all.0,
      e.0,
      all.2,
      record { split = all.3.split; answers = e.1; written = all.3.written ∙ ap (append_known held) (sym e.2) },
      all.4,
      all.5,
    )

-- a read failed
says_read_fault : (answered : RepliesTo) (left rest held now : Option (List ℕ)) → AreExchanges answered
    → stream.IsAnsweredUpTo answered left rest held now → IsAnsweredUpTo left rest held now
says_read_fault answered left rest held now are all =
    let e = are all.0 all.1 all.6 in
    (all.0, e.0, all.2, all.3, all.4, all.5, e.1, all.7 ∙ ap (append_known held) (sym e.2))

-- a write failed
says_cut : (answered : RepliesTo) (left held now : Option (List ℕ)) → AreExchanges answered
    → stream.IsCutShort answered left held now → IsCutShort left held now
says_cut answered left held now are all =
    let e = are all.0 all.1 all.6 in
    (all.0, e.0, all.2, all.3, all.4, all.5, e.1, e.2 ∙ all.7, all.8)

says_so : (end : End) (answered : RepliesTo) (left rest held now : Option (List ℕ)) → AreExchanges answered
    → EndsStream end answered left rest held now → Says (status_of end) left rest held now
says_so Closed answered left rest held now are ends = says_closed answered left rest held now are ends
says_so ReadFault answered left rest held now are ends = says_read_fault answered left rest held now are ends
says_so WriteFault answered left rest held now are ends = says_cut answered left held now are ends
says_so (NotAMessage place) answered left rest held now are ends = says_not_a_message answered place left held now are ends

-- a stream that was answered from no organisation on ends with the status that says so
pub says_end : {S : Type 0} (states : S → States) (ended : Status) (end : End) (before after : S) (left rest held now : Option (List ℕ))
    → ((name : List ℕ) → states before name ≡ none) → ended ≡ status_of end
    → EndsStream end (AreAnswered (serving states) before after) left rest held now → Says ended left rest held now
says_end states ended end before after left rest held now absent same ends =
    subst (λ s. Says s left rest held now) (sym same)
    (says_so end (AreAnswered (serving states) before after) left rest held now (exchanged states before after absent) ends)

status_caused : (end : End) (read_before read_now written_before written_now : ℕ)
    → HasFaultCause end read_before read_now written_before written_now → HasStatusCause (status_of end) read_before read_now written_before written_now
status_caused Closed rb rn wb wn cause = cause
status_caused ReadFault rb rn wb wn cause = cause
status_caused WriteFault rb rn wb wn cause = cause
status_caused (NotAMessage place) rb rn wb wn cause = cause

-- and has that status's cause
pub has_cause : (ended : Status) (end : End) (read_before read_now written_before written_now : ℕ) → ended ≡ status_of end
    → HasFaultCause end read_before read_now written_before written_now → HasStatusCause ended read_before read_now written_before written_now
has_cause ended end rb rn wb wn same cause =
    subst (λ s. HasStatusCause s rb rn wb wn) (sym same) (status_caused end rb rn wb wn cause)

-- a status tells of the rest, since a stream splits in one way
pub tells_rest : (status : Status) (left rest held now : Option (List ℕ)) → Says status left rest held now → TellsRest status left
tells_rest status left rest held now says bytes messages part known split = (
  (λ done.
      let all : IsAnswered left rest held now = subst (λ s. Says s left rest held now) done says in
      let other : Splits 0 bytes all.0 [] = subst (λ l. IfSome l (λ xs. Splits 0 xs all.0 [])) known all.2.split in
      (Splits-unique 0 bytes messages all.0 part [] split other).1),
  (λ place cut.
      let all : IsAnsweredToRest place left held now = subst (λ s. Says s left rest held now) cut says in
      let other : Splits 0 bytes all.0 all.2 = subst (λ l. IfSome l (λ xs. Splits 0 xs all.0 all.2)) known all.3.split in
      let one = Splits-unique 0 bytes messages all.0 part all.2 split other in
      ((λ none. all.4 (sym one.1 ∙ none)), all.5 ∙ ap (place_after 0) (sym one.0))),
)

-- whole messages alone, and no count that rose, leave two statuses
pub is_complete : (ended : Status) (left rest held now : Option (List ℕ)) (read_before read_now written_before written_now : ℕ)
    → Says ended left rest held now → HasStatusCause ended read_before read_now written_before written_now
    → IsComplete ended left read_before read_now written_before written_now
is_complete status.Done left rest held now rb rn wb wn says cause bytes messages known split no_read no_write = inl refl
is_complete status.Usage left rest held now rb rn wb wn says cause bytes messages known split no_read no_write = absurd says
is_complete status.ReadFault left rest held now rb rn wb wn says cause bytes messages known split no_read no_write = absurd (no_read cause)
is_complete status.WriteFault left rest held now rb rn wb wn says cause bytes messages known split no_read no_write = absurd (no_write cause)
is_complete status.NoMemory left rest held now rb rn wb wn says cause bytes messages known split no_read no_write = inr refl
is_complete (status.NotAMessage place) left rest held now rb rn wb wn says cause bytes messages known split no_read no_write =
    absurd (((tells_rest (status.NotAMessage place) left rest held now says bytes messages [] known split).1 place refl).0 refl)
is_complete status.BadReply left rest held now rb rn wb wn says cause bytes messages known split no_read no_write = absurd says
is_complete (status.Refused number) left rest held now rb rn wb wn says cause bytes messages known split no_read no_write = absurd says
is_complete status.BadFile left rest held now rb rn wb wn says cause bytes messages known split no_read no_write = absurd says
