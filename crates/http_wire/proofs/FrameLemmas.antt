-- Where the head at the front of a stream frames no message, and what a message's end leaves.
use Rattle.std.proofs.Common.{◌≡◌, ℕ, ◌+◌, ◌-◌, ◌<◌, ◌≤◌, List, ◌++◌, length, map, take, drop, inl, inr, None, Some, IfSome, nat_le, refl, sym, ap, ◌∙◌, arith, append_assoc, length-append, take-append-drop}
use Rattle.std.specs.Prelude.{MatchBool, if◌then◌else◌, option_and_then}
use Rattle.std.proofs.lemmas.List.{length-take-le, length-take, length-map}
use Rattle.std.proofs.Math.Seq.{take-append_seam}
use Rattle.std.proofs.lemmas.Bool.Decides.{leb_tells}
use Rattle.std.specs.declared.option.Option.{Option}
use Rattle.std.specs.Io.KnownBytes.{prepend_known}
use Rattle.httparse.specs.Grammar.{RequestHead, IsRequestHead, ReadsRequest, print_request}
use Rattle.httparse.specs.Spans.{name_and_value}
use Rattle.httparse.proofs.GrammarLemmas.{ReadsRequest-append}
use Rattle.http_wire.specs.Fields.{body_length}
use Rattle.http_wire.specs.Message.{Message, IsMessage, Begins, BeginsNone, headers_of, last_place}
use Rattle.http_wire.specs.Frames.{framed_size, IsFramed}
use Rattle.http_wire.specs.Splits.{Takes}
use Rattle.http_wire.specs.Faults.{NoneBeginsIn}
use Rattle.http_wire.proofs.MessageLemmas.{unframed, too_far, cut_short}
use Rattle.http_wire.proofs.RoomLemmas.{prepend_known-append}
use Rattle.http_wire.proofs.StreamLemmas.{none_in, print_request-some, some_bytes}

-- a message is not framed where its length isn't said, or where it would end too far
pub not_framed : (place len : ℕ) (said : Option ℕ) (bytes : List ℕ) (h : RequestHead) (tail : List ℕ)
    → ReadsRequest bytes h tail → len ≡ length (print_request h) → body_length (headers_of h) ≡ said
    → framed_size place len (headers_of h) ≡ None → place ≤ last_place → BeginsNone (last_place - place) bytes
not_framed place len None bytes h tail r e said none le = unframed (last_place - place) bytes h tail r said
not_framed place len (Some size) bytes h tail r e said none le =
    let test = rw said at none in
    elim (leb_tells (place + len + size) last_place) [
      | inl within ↦ let taken = rw within.0 at test in absurd (cc)
      | inr far ↦ too_far (last_place - place) bytes h tail size r said (omega (arith, far.1))
    ]

-- no message begins a stream where the head that a room holds frames none
pub none_in_unframed : (place len : ℕ) (held : List ℕ) (left : Option (List ℕ)) (h : RequestHead) (tail : List ℕ)
    → ReadsRequest held h tail → len ≡ length (print_request h)
    → framed_size place len (headers_of h) ≡ None → place ≤ last_place → NoneBeginsIn place (prepend_known held left)
none_in_unframed place len held left h tail r e none le =
    let some : 0 < length held = omega (arith, print_request-some h, ap length r.1 ∙ length-append (print_request h) tail) in
    none_in place held left some
    (λ more. not_framed place len (body_length (headers_of h)) (held ++ more) h (tail ++ more) (ReadsRequest-append held h tail more r) e refl none le)

-- a stream behind the front of what is held
pub stream_behind : (held : List ℕ) (len : ℕ) (left rest : Option (List ℕ)) → prepend_known (drop len held) left ≡ rest
    → prepend_known held left ≡ prepend_known (take len held) rest
stream_behind held len left rest e =
    ap (λ xs. prepend_known xs left) (sym (take-append-drop len held))
    ∙ prepend_known-append (take len held) (drop len held) left ∙ ap (prepend_known (take len held)) e

-- a size that is framed is the one that the headers say, and the message ends in time
framed_said : (place len size : ℕ) (said : Option ℕ) → option_and_then (λ n. if nat_le (place + len + n) last_place then Some n else None) said ≡ Some size
    → (said ≡ Some size) × (place + len + size ≤ last_place)
framed_said place len size None e = absurd (cc)
framed_said place len size (Some n) e =
    elim (leb_tells (place + len + n) last_place) [
      | inl within ↦ let same : Some n ≡ Some size = rw within.0 at e in let n_is : n ≡ size = cc in (same, omega (arith, within.1, n_is))
      | inr far ↦ let none : None ≡ Some size = rw far.0 at e in absurd (cc)
    ]

pub framed_some : (place len size : ℕ) (h : RequestHead) → framed_size place len (headers_of h) ≡ Some size
    → (body_length (headers_of h) ≡ Some size) × (place + len + size ≤ last_place)
framed_some place len size h e = framed_said place len size (body_length (headers_of h)) e

-- a framed head and a body of its size are a message
pub framed_message : (place size : ℕ) (h : RequestHead) (body : List ℕ) → IsRequestHead h → IsFramed place h size → length body ≡ size
    → IsMessage (record { head = h; body = body })
framed_message place size h body is framed e = record {
  head = is;
  size = framed.small;
  fields = framed.fields;
  body = framed.body ∙ ap Some (sym e);
}

-- the front of what is held is the head there
pub held_front : (held : List ℕ) (h : RequestHead) (tail : List ℕ) (len : ℕ) → held ≡ print_request h ++ tail → len ≡ length (print_request h)
    → take len held ≡ print_request h
held_front held h tail len e n =
    ap (λ k. take k held) n ∙ ap (take (length (print_request h))) e ∙ take-append_seam (print_request h) tail

-- a stream that lost a framed head and a body of its size lost a message
pub framed_takes : (place size len : ℕ) (held : List ℕ) (h : RequestHead) (tail body : List ℕ) (old new : Option (List ℕ))
    → ReadsRequest held h tail → len ≡ length (print_request h) → IsFramed place h size → length body ≡ size
    → old ≡ prepend_known (take len held) (prepend_known body new) → Takes place old new (record { head = h; body = body })
framed_takes place size len held h tail body old new r n framed e left = record {
  message = framed_message place size h body r.0 framed e;
  ends = omega (arith, framed.ends, length-append (print_request h) body, e);
  bytes =
      left ∙ ap (λ xs. prepend_known xs (prepend_known body new)) (held_front held h tail len r.1 n)
      ∙ sym (prepend_known-append (print_request h) body new);
}

-- a head with less behind it than its size begins no message
pub framed_cut : (place size len : ℕ) (held : List ℕ) (h : RequestHead) (tail taken : List ℕ)
    → ReadsRequest held h tail → len ≡ length (print_request h) → IsFramed place h size → length taken < size
    → BeginsNone (last_place - place) (take len held ++ taken)
framed_cut place size len held h tail taken r n framed less =
    cut_short (last_place - place) (take len held ++ taken) h taken size
    (r.0, ap (λ xs. xs ++ taken) (held_front held h tail len r.1 n)) framed.body less

-- a stream that has less than its size behind a framed head begins no message
pub framed_none : (place size len : ℕ) (held : List ℕ) (left : Option (List ℕ)) (h : RequestHead) (tail : List ℕ)
    → ReadsRequest held h tail → len ≡ length (print_request h) → IsFramed place h size
    → IfSome (prepend_known held left) (λ bytes. length bytes < len + size) → NoneBeginsIn place (prepend_known held left)
framed_none place size len held None h tail r n framed less = tt
framed_none place size len held (Some more) h tail r n framed less =
    let reads : ReadsRequest (held ++ more) h (tail ++ more) = ReadsRequest-append held h tail more r in
    let whole : length (held ++ more) ≡ length (print_request h) + length (tail ++ more) =
    ap length reads.1 ∙ length-append (print_request h) (tail ++ more) in
    let short : length (tail ++ more) < size = omega (arith, whole, less, n) in
    let some : 0 < length held = omega (arith, print_request-some h, ap length r.1 ∙ length-append (print_request h) tail) in
    let none : BeginsNone (last_place - place) (held ++ more) = cut_short (last_place - place) (held ++ more) h (tail ++ more) size reads framed.body short in
    (some_bytes (held ++ more) (omega (arith, length-append held more)), none)

-- what is held begins a message where its head is framed and its body is held too
held_whole : (place len size : ℕ) (held : List ℕ) (h : RequestHead) (tail : List ℕ)
    → ReadsRequest held h tail → len ≡ length (print_request h) → len ≤ 16384 → length h.fields ≤ 64
    → framed_size place len (headers_of h) ≡ Some size → len + size ≤ length held
    → (m : Message) × (rest : List ℕ) × Begins (last_place - place) held m rest
held_whole place len size held h tail r n small fields e within =
    let said = framed_some place len size h e in
    let whole : length held ≡ length (print_request h) + length tail = ap length r.1 ∙ length-append (print_request h) tail in
    let framed : IsFramed place h size = record { small = omega (arith, small, n); fields = fields; body = said.0; ends = omega (arith, said.1, n) } in
    let some : size ≤ length tail = omega (arith, within, whole, n) in
    let body = take size tail in
    let full : length body ≡ size = length-take-le size tail some in
    let begins : Begins (last_place - place) held (record { head = h; body = body }) (drop size tail) = record {
      message = framed_message place size h body r.0 framed full;
      ends = omega (arith, framed.ends, length-append (print_request h) body, full);
      whole =
          r.1 ∙ ap (λ xs. print_request h ++ xs) (sym (take-append-drop size tail))
          ∙ sym (append_assoc (print_request h) body (drop size tail));
    } in
    (record { head = h; body = body }, drop size tail, begins)

-- what is held begins no message where less than its body is held
held_short : (place len size : ℕ) (held : List ℕ) (h : RequestHead) (tail : List ℕ)
    → ReadsRequest held h tail → len ≡ length (print_request h)
    → framed_size place len (headers_of h) ≡ Some size → length held < len + size → BeginsNone (last_place - place) held
held_short place len size held h tail r n e short =
    let said = framed_some place len size h e in
    let whole : length held ≡ length (print_request h) + length tail = ap length r.1 ∙ length-append (print_request h) tail in
    cut_short (last_place - place) held h tail size r said.0 (omega (arith, short, whole, n))

-- whether what is held begins a message whose head is framed
pub held_message : (place len size : ℕ) (held : List ℕ) (h : RequestHead) (tail : List ℕ)
    → ReadsRequest held h tail → len ≡ length (print_request h) → len ≤ 16384 → length h.fields ≤ 64
    → framed_size place len (headers_of h) ≡ Some size
    → MatchBool (nat_le (len + size) (length held)) ((m : Message) × (rest : List ℕ) × Begins (last_place - place) held m rest)
    (BeginsNone (last_place - place) held)
held_message place len size held h tail r n small fields e =
    elim (leb_tells (len + size) (length held)) [
      | inl within ↦ rw within.0 (held_whole place len size held h tail r n small fields e within.1)
      | inr short ↦ rw short.0 (held_short place len size held h tail r n e short.1)
    ]

-- as many headers as were found are the head's fields
pub fields_fit : (X : Type 0) (f : X → List ℕ × List ℕ) (found : List X) (count : ℕ) (h : RequestHead)
    → map f (take count found) ≡ headers_of h → length found ≡ 64 → length h.fields ≤ 64
fields_fit X f found count h e n =
    let counted : length (take count found) ≡ length h.fields = sym (length-map (take count found) f) ∙ ap length e ∙ length-map h.fields name_and_value in
    omega (arith, counted, n, length-take count found)

-- the place behind a framed message
pub framed_place : (place size len : ℕ) (h : RequestHead) (body : List ℕ) → len ≡ length (print_request h) → length body ≡ size
    → place + (len + size) ≡ place + length (print_request h ++ body)
framed_place place size len h body n e = omega (arith, n, e, length-append (print_request h) body)
