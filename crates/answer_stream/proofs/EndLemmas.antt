-- What the end of a stream comes to, once the replies that wait went out.
use Rattle.std.proofs.Common.{◌≡◌, ◌≢◌, ◌≤◌, ◌+◌, ◌-◌, ℕ, List, [], ◌∷◌, ◌++◌, length, Option, None, Some, sym, ap, subst, refl, ◌∙◌, append_assoc, append-nil, arith, inl, inr}
use Rattle.std.specs.Option.{IfSome}
use Rattle.std.specs.List.{flat_map}
use Rattle.std.specs.Io.KnownBytes.{append_known, prepend_known, IsAtEnd}
use Rattle.std.proofs.lemmas.Bool.{cases_eq}
use Rattle.outside_core.specs.Failed.{Rose}
use Rattle.outside_core.specs.Sink.{GainsPart, PassesOn}
use Rattle.outside_core.proofs.SinkLemmas.{append_known-append}
use Rattle.http_wire.specs.Message.{Message, print_message, BeginsNone, last_place}
use Rattle.http_wire.specs.Faults.{NoneBeginsIn}
use Rattle.http_wire.specs.Splits.{Splits, BeginsAll, TakesAll, place_after}
use Rattle.http_wire.proofs.SplitsLemmas.{BeginsAll-from_takes}
use Rattle.http_wire.proofs.StreamLemmas.{BeginsNone-nil}
use Rattle.answer_stream.specs.declared.ends.End.{End}
use Rattle.answer_stream.specs.declared.ends.End.TheVariants.{Closed, ReadFault, WriteFault, NotAMessage}
use Rattle.answer_stream.specs.Answering.{Meaning, AreAnswered, texts_of}
use Rattle.answer_stream.specs.Ends.{RepliesTo, IsAnswered, IsAnsweredToRest, IsAnsweredUpTo, IsCutShort, EndsStream, HasFaultCause}
use Rattle.answer_stream.specs.Turns.{Stops, EndsLoop}
use Rattle.answer_stream.proofs.TurnLemmas.{cut_emptying}

-- two fronts of a stream are one
prepend_known-append : (xs ys : List ℕ) (known : Option (List ℕ)) → prepend_known xs (prepend_known ys known) ≡ prepend_known (xs ++ ys) known
prepend_known-append xs ys None = refl
prepend_known-append xs ys (Some zs) = ap Some (sym (append_assoc xs ys zs))

-- the bytes of the messages that were taken, before what is left
takes-bytes : (place : ℕ) (old new : Option (List ℕ)) (ms : List Message) → TakesAll place old new ms
    → old ≡ prepend_known (flat_map print_message ms) new
takes-bytes place old None [] taken = taken
takes-bytes place old (Some xs) [] taken = taken
takes-bytes place old new (m ∷ ms) taken =
    taken.1.bytes ∙ ap (prepend_known (print_message m)) (takes-bytes (place + length (print_message m)) taken.0 new ms taken.2)
    ∙ prepend_known-append (print_message m) (flat_map print_message ms) new

-- those bytes, and then any others, begin with all of these messages
takes-begins : (place : ℕ) (old new : Option (List ℕ)) (ms : List Message) (part : List ℕ) → TakesAll place old new ms
    → BeginsAll place (flat_map print_message ms ++ part) ms part
takes-begins place old new [] part taken = refl
takes-begins place old new (m ∷ ms) part taken = (
  flat_map print_message ms ++ part,
  record {
    message = taken.1.message;
    ends = omega (arith, taken.1.ends);
    whole = append_assoc (print_message m) (flat_map print_message ms) part;
  },
  takes-begins (place + length (print_message m)) taken.0 new ms part taken.2,
)

-- all replies were written once what waited went out
all_written : (held gained now : Option (List ℕ)) (texts waiting : List ℕ) → PassesOn held gained texts waiting → now ≡ append_known gained waiting
    → now ≡ append_known held texts
all_written held gained now texts waiting p out =
    out ∙ ap (λ known. append_known known waiting) p.2 ∙ append_known-append held p.0 waiting ∙ ap (append_known held) (sym p.1)

-- a stream of which nothing is left is split by the messages that were taken
closed_split : (first now : Option (List ℕ)) (ms : List Message) → TakesAll 0 first now ms → IsAtEnd now → IfSome first (λ bytes. Splits 0 bytes ms [])
closed_split None now ms taken at_end = tt
closed_split (Some bytes) now ms taken at_end =
    let begins = BeginsAll-from_takes 0 bytes now ms taken in
    let nothing : begins.0 ≡ [] = subst IsAtEnd begins.1 at_end in
    record {
      whole = subst (BeginsAll 0 bytes ms) nothing begins.2;
      none = BeginsNone-nil (last_place - place_after 0 ms);
    }

-- the input was read to its end
ends_closed : {S : Type 0} (answers : Meaning S) (before after : S) (first rest held gained now : Option (List ℕ)) (waiting : List ℕ)
    → Stops answers Closed before after first rest held gained waiting → now ≡ append_known gained waiting
    → IsAnswered (AreAnswered answers before after) first rest held now
ends_closed answers before after first rest held gained now waiting stops out =
    let s = stops.2 in (
      s.messages,
      s.replies,
      record {
        split = closed_split first stops.0 s.messages s.taken stops.3.0;
        answers = s.answered;
        written = all_written held gained now (texts_of s.replies) waiting s.written out;
      },
      stops.3.1,
    )

-- a stream behind whose messages bytes are left that begin with none is split by these messages
cut_split : (first now : Option (List ℕ)) (ms : List Message) (place : ℕ) → TakesAll 0 first now ms → place ≡ place_after 0 ms
    → NoneBeginsIn place now → (rest : List ℕ) × IfSome first (λ bytes. Splits 0 bytes ms rest) × (rest ≢ [])
cut_split None now ms place taken reached reason = (0 ∷ [], tt, λ same. absurd (omega (arith, ap length same)))
cut_split (Some bytes) now ms place taken reached reason =
    let begins = BeginsAll-from_takes 0 bytes now ms taken in
    let left : (begins.0 ≢ []) × BeginsNone (last_place - place) begins.0 = subst (NoneBeginsIn place) begins.1 reason in (
      begins.0,
      record { whole = begins.2; none = subst (λ p. BeginsNone (last_place - p) begins.0) reached left.1 },
      left.0,
    )

-- what follows the whole messages is none
ends_at_none : {S : Type 0} (answers : Meaning S) (told : ℕ) (before after : S) (first rest held gained now : Option (List ℕ)) (waiting : List ℕ)
    → Stops answers (NotAMessage told) before after first rest held gained waiting → now ≡ append_known gained waiting
    → IsAnsweredToRest (AreAnswered answers before after) told first held now
ends_at_none answers told before after first rest held gained now waiting stops out =
    let s = stops.2 in
    let split = cut_split first stops.0 s.messages stops.1 s.taken s.reached stops.3.1 in (
      s.messages,
      s.replies,
      split.0,
      record {
        split = split.1;
        answers = s.answered;
        written = all_written held gained now (texts_of s.replies) waiting s.written out;
      },
      split.2,
      stops.3.0 ∙ s.reached,
    )

-- a read failed
ends_read_fault : {S : Type 0} (answers : Meaning S) (before after : S) (first rest held gained now : Option (List ℕ)) (waiting : List ℕ)
    → Stops answers ReadFault before after first rest held gained waiting → now ≡ append_known gained waiting
    → IsAnsweredUpTo (AreAnswered answers before after) first rest held now
ends_read_fault answers before after first rest held gained now waiting stops out =
    let s = stops.2 in
    let bytes = flat_map print_message s.messages in
    let part = stops.3.0 in (
      s.messages,
      s.replies,
      bytes ++ part,
      part,
      takes-bytes 0 first stops.0 s.messages s.taken ∙ ap (prepend_known bytes) stops.3.1 ∙ prepend_known-append bytes part rest,
      record {
        whole = takes-begins 0 first stops.0 s.messages part s.taken;
        none = subst (λ p. BeginsNone (last_place - p) part) s.reached stops.3.2;
      },
      s.answered,
      all_written held gained now (texts_of s.replies) waiting s.written out,
    )

-- nothing waits behind a write that failed
cut_short_stays : (answered : RepliesTo) (first held gained now : Option (List ℕ)) (waiting : List ℕ) → waiting ≡ [] → now ≡ append_known gained waiting
    → IsCutShort answered first held gained → IsCutShort answered first held now
cut_short_stays answered first held gained now waiting none out cut =
    subst (IsCutShort answered first held) (sym (out ∙ ap (append_known gained) none ∙ nothing_more gained)) cut
  where
    nothing_more : (known : Option (List ℕ)) → append_known known [] ≡ known
    nothing_more None = refl
    nothing_more (Some xs) = ap Some (append-nil xs)

-- what waited went out, whatever ended the stream
pub ended : {S : Type 0} (answers : Meaning S) (end : End) (before after : S) (first rest held gained now : Option (List ℕ)) (waiting : List ℕ)
    → now ≡ append_known gained waiting → EndsLoop answers end before after first rest held gained waiting
    → EndsStream end (AreAnswered answers before after) first rest held now
ended answers Closed before after first rest held gained now waiting out ends =
    ends_closed answers before after first rest held gained now waiting ends out
ended answers ReadFault before after first rest held gained now waiting out ends =
    ends_read_fault answers before after first rest held gained now waiting ends out
ended answers WriteFault before after first rest held gained now waiting out ends =
    cut_short_stays (AreAnswered answers before after) first held gained now waiting ends.1 out ends.0
ended answers (NotAMessage told) before after first rest held gained now waiting out ends =
    ends_at_none answers told before after first rest held gained now waiting ends out

-- a front of nothing is nothing
cut_short_after : (answered : RepliesTo) (first held gained now : Option (List ℕ)) (waiting : List ℕ) → waiting ≡ [] → GainsPart gained now waiting
    → IsCutShort answered first held gained → IsCutShort answered first held now
cut_short_after answered first held gained now waiting none p cut =
    let nothing : p.0 ≡ [] = no_front p.0 p.1 (sym p.2 ∙ none) in
    cut_short_stays answered first held gained now p.0 nothing p.3 cut
  where
    no_front : (xs ys : List ℕ) → xs ++ ys ≡ [] → xs ≡ []
    no_front [] ys e = refl
    no_front (x ∷ xs) ys e = absurd (omega (arith, ap length e))

-- a write that fails while what waits goes out cuts the replies short, whatever ended the stream
pub ended_cut : {S : Type 0} (answers : Meaning S) (end : End) (before after : S) (first rest held gained now : Option (List ℕ)) (waiting : List ℕ)
    → GainsPart gained now waiting → EndsLoop answers end before after first rest held gained waiting
    → IsCutShort (AreAnswered answers before after) first held now
ended_cut answers Closed before after first rest held gained now waiting p ends =
    cut_emptying answers before after first ends.0 ends.1 held gained now waiting ends.2 p
ended_cut answers ReadFault before after first rest held gained now waiting p ends =
    cut_emptying answers before after first ends.0 ends.1 held gained now waiting ends.2 p
ended_cut answers WriteFault before after first rest held gained now waiting p ends =
    cut_short_after (AreAnswered answers before after) first held gained now waiting ends.1 p ends.0
ended_cut answers (NotAMessage told) before after first rest held gained now waiting p ends =
    cut_emptying answers before after first ends.0 ends.1 held gained now waiting ends.2 p

-- a count that rose rose up to a later one too
rose_on : (before mid now : ℕ) → before ≤ mid → mid ≤ now → Rose before mid → Rose before now
rose_on before mid now first later (inl rose) = inl (omega arith)
rose_on before mid now first later (inr last) = elim (cases_eq now 18446744073709551615) [ inl same ↦ inr same | inr other ↦ inl (omega (arith, other)) ]

-- a cause stays one while what waits goes out
pub cause_later : (end : End) (read_before read_now written_before written_mid written_now : ℕ) → written_before ≤ written_mid → written_mid ≤ written_now
    → HasFaultCause end read_before read_now written_before written_mid → HasFaultCause end read_before read_now written_before written_now
cause_later Closed rb rn wb wm wn first later cause = tt
cause_later ReadFault rb rn wb wm wn first later cause = cause
cause_later WriteFault rb rn wb wm wn first later cause = rose_on wb wm wn first later cause
cause_later (NotAMessage told) rb rn wb wm wn first later cause = tt
