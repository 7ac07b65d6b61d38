-- Which streams begin with no reply, where a room holds their front.
use Rattle.std.proofs.Common.{◌≡◌, ℕ, ◌+◌, ◌<◌, ◌≤◌, List, ◌++◌, length, map, take, drop, None, Some, IfSome, sym, ap, ◌∙◌, subst, arith, append-nil, length-append, take-append-drop}
use Rattle.std.proofs.Math.Seq.{take-append_seam}
use Rattle.std.proofs.lemmas.List.{length-map, length-take}
use Rattle.httparse.specs.Spans.{name_and_value}
use Rattle.std.specs.declared.option.Option.{Option}
use Rattle.std.specs.Io.KnownBytes.{prepend_known, IsAtEnd}
use Rattle.httparse.specs.Grammar.{HasNoResponse, ResponseHead, ReadsResponse, print_response}
use Rattle.httparse.specs.Spans.{ResponseOverflows}
use Rattle.httparse.proofs.GrammarLemmas.{ReadsResponse-append}
use Rattle.peer_wire.specs.Answer.{IsAnswer, NoReply, headers_of}
use Rattle.peer_wire.specs.Fields.{body_length}
use Rattle.peer_wire.specs.Frames.{IsFrame}
use Rattle.peer_wire.specs.declared.heads.Frame.{Frame}
use Rattle.peer_wire.proofs.AnswerLemmas.{overlong, overflowing, headless, unframed, cut_short}
use Rattle.http_wire.proofs.RoomLemmas.{prepend_known-append}

-- no reply begins where the room is full and holds no head
pub none_full : (held : List ℕ) (left : Option (List ℕ)) → length held ≡ 16384 → HasNoResponse held → IfSome (prepend_known held left) NoReply
none_full held None full none = tt
none_full held (Some more) full none = overlong held more none (omega arith)

-- no reply begins where each head has too many headers
pub none_overflow : (held : List ℕ) (left : Option (List ℕ)) → ResponseOverflows 64 held → IfSome (prepend_known held left) NoReply
none_overflow held None over = tt
none_overflow held (Some more) over = overflowing held more over

-- no reply begins where the source is at its end and the room holds no head
pub none_end : (held : List ℕ) (left : Option (List ℕ)) → IsAtEnd left → HasNoResponse held → IfSome (prepend_known held left) NoReply
none_end held None end none = tt
none_end held (Some more) end none =
    subst NoReply (sym (append-nil held) ∙ ap (λ xs. held ++ xs) (sym end)) (headless held none)

-- no reply begins where the head that a room holds doesn't say one length
pub none_unframed : (held : List ℕ) (left : Option (List ℕ)) (h : ResponseHead) (tail : List ℕ)
    → ReadsResponse held h tail → body_length (headers_of h) ≡ None → IfSome (prepend_known held left) NoReply
none_unframed held None h tail r none = tt
none_unframed held (Some more) h tail r none = unframed (held ++ more) h (tail ++ more) (ReadsResponse-append held h tail more r) none

-- no reply begins where less is left behind the head than it says
pub none_cut : (held : List ℕ) (left : Option (List ℕ)) (frame : Frame) (h : ResponseHead) (tail : List ℕ)
    → IsFrame held frame h tail → IfSome (prepend_known (drop frame.len held) left) (λ bytes. length bytes < frame.size) → IfSome (prepend_known held left) NoReply
none_cut held None frame h tail f less = tt
none_cut held (Some more) frame h tail f less =
    let reads : ReadsResponse (held ++ more) h (tail ++ more) = ReadsResponse-append held h tail more f.reads in
    let whole : length held ≡ length (print_response h) + length tail = ap length f.reads.1 ∙ length-append (print_response h) tail in
    let cut : length held ≡ length (take frame.len held) + length (drop frame.len held) = sym (ap length (take-append-drop frame.len held)) ∙ length-append (take frame.len held) (drop frame.len held) in
    let front : take frame.len held ≡ print_response h = ap (λ n. take n held) f.len ∙ ap (take (length (print_response h))) f.reads.1 ∙ take-append_seam (print_response h) tail in
    let short : length (tail ++ more) < frame.size = omega (arith, whole, cut, less, ap length front, length-append tail more, length-append (drop frame.len held) more) in
    cut_short (held ++ more) h (tail ++ more) frame.size reads f.body short

-- the head, and then the body that it says, are a reply
pub framed_answer : (held : List ℕ) (frame : Frame) (h : ResponseHead) (tail body : List ℕ) → IsFrame held frame h tail → length body ≡ frame.size
    → IsAnswer (record { head = h; body = body })
framed_answer held frame h tail body f e = record { head = f.reads.0; size = f.small; fields = f.fields; body = f.body ∙ ap Some (sym e) }

-- the stream lost the head and then the body
pub framed_left : (held : List ℕ) (frame : Frame) (h : ResponseHead) (tail body : List ℕ) (left new : Option (List ℕ)) → IsFrame held frame h tail
    → prepend_known (drop frame.len held) left ≡ prepend_known body new
    → prepend_known held left ≡ prepend_known (print_response h ++ body) new
framed_left held frame h tail body left new f e =
    let front : take frame.len held ≡ print_response h = ap (λ n. take n held) f.len ∙ ap (take (length (print_response h))) f.reads.1 ∙ take-append_seam (print_response h) tail in
    ap (λ xs. prepend_known xs left) (sym (take-append-drop frame.len held))
    ∙ prepend_known-append (take frame.len held) (drop frame.len held) left
    ∙ ap (prepend_known (take frame.len held)) e
    ∙ sym (prepend_known-append (take frame.len held) body new)
    ∙ ap (λ xs. prepend_known (xs ++ body) new) front

-- what is gone behind the head is gone with it
pub lost_behind : (held : List ℕ) (len : ℕ) (left new : Option (List ℕ)) (gone : List ℕ) → prepend_known (drop len held) left ≡ prepend_known gone new
    → prepend_known held left ≡ prepend_known (take len held ++ gone) new
lost_behind held len left new gone e =
    ap (λ xs. prepend_known xs left) (sym (take-append-drop len held))
    ∙ prepend_known-append (take len held) (drop len held) left
    ∙ ap (prepend_known (take len held)) e
    ∙ sym (prepend_known-append (take len held) gone new)

-- as many headers as were found are the head's fields
pub fields_fit : (X : Type 0) (f : X → List ℕ × List ℕ) (found : List X) (count : ℕ) (h : ResponseHead)
    → map f (take count found) ≡ headers_of h → length found ≡ 64 → length h.fields ≤ 64
fields_fit X f found count h e n =
    let counted : length (take count found) ≡ length h.fields = sym (length-map (take count found) f) ∙ ap length e ∙ length-map h.fields name_and_value in
    omega (arith, counted, n, length-take count found)
