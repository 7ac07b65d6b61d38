-- Which bytes begin with no reply.
use Rattle.std.proofs.Common.{◌≡◌, ℕ, ◌+◌, ◌<◌, ◌≤◌, List, ◌++◌, length, take, drop, Some, None, sym, ap, ◌∙◌, arith, append_assoc, length-append, take-append-drop}
use Rattle.std.proofs.lemmas.List.{take-append-le}
use Rattle.std.proofs.Math.Seq.{take-append_seam}
use Rattle.httparse.specs.Grammar.{ResponseHead, ReadsResponse, HasNoResponse, print_response}
use Rattle.httparse.specs.Spans.{ResponseOverflows}
use Rattle.httparse.proofs.GrammarLemmas.{response_unique}
use Rattle.peer_wire.specs.Fields.{body_length}
use Rattle.peer_wire.specs.Answer.{Answer, headers_of, Begins, NoReply}

-- the head of a reply at the front of the bytes is the head there
pub same_head : (bytes : List ℕ) (h : ResponseHead) (tail : List ℕ) (m : Answer) (rest : List ℕ)
    → ReadsResponse bytes h tail → Begins bytes m rest → (h ≡ m.head) × (tail ≡ m.body ++ rest)
same_head bytes h tail m rest r b =
    response_unique bytes h m.head tail (m.body ++ rest) r
    (b.message.head, b.whole ∙ append_assoc (print_response m.head) m.body rest)

-- no reply begins where the head doesn't say how long its body is
pub unframed : (bytes : List ℕ) (h : ResponseHead) (tail : List ℕ)
    → ReadsResponse bytes h tail → body_length (headers_of h) ≡ None → NoReply bytes
unframed bytes h tail r none m rest b =
    let same = (same_head bytes h tail m rest r b).0 in
    let said : body_length (headers_of h) ≡ Some (length m.body) = ap (λ k. body_length (headers_of k)) same ∙ b.message.body in
    cc

-- no reply begins where less is left than the head says
pub cut_short : (bytes : List ℕ) (h : ResponseHead) (tail : List ℕ) (size : ℕ)
    → ReadsResponse bytes h tail → body_length (headers_of h) ≡ Some size → length tail < size → NoReply bytes
cut_short bytes h tail size r says less m rest b =
    let same = same_head bytes h tail m rest r b in
    let said : Some size ≡ Some (length m.body) = sym says ∙ ap (λ k. body_length (headers_of k)) same.0 ∙ b.message.body in
    let size_is : size ≡ length m.body = cc in
    let long : length tail ≡ length m.body + length rest = ap length same.1 ∙ length-append m.body rest in
    omega arith

-- no reply begins where no head does
pub headless : (bytes : List ℕ) → HasNoResponse bytes → NoReply bytes
headless bytes none m rest b =
    none m.head (m.body ++ rest) (b.message.head, b.whole ∙ append_assoc (print_response m.head) m.body rest)

-- no reply begins where what is held is as long as a head may be, and begins with none
pub overlong : (held more : List ℕ) → HasNoResponse held → 16384 ≤ length held → NoReply (held ++ more)
overlong held more none long m rest b =
    let head = print_response m.head in
    let tail = m.body ++ rest in
    let whole : held ++ more ≡ head ++ tail = b.whole ∙ append_assoc head m.body rest in
    let within : length head ≤ length held = omega (arith, b.message.size) in
    let front : take (length head) held ≡ head =
    sym (take-append-le (length head) held more within) ∙ ap (take (length head)) whole ∙ take-append_seam head tail in
    let split : held ≡ head ++ drop (length head) held =
    sym (take-append-drop (length head) held) ∙ ap (λ xs. xs ++ drop (length head) held) front in
    none m.head (drop (length head) held) (b.message.head, split)

-- no reply begins where every head has too many fields
pub overflowing : (held more : List ℕ) → ResponseOverflows 64 held → NoReply (held ++ more)
overflowing held more over m rest b =
    let reads : ReadsResponse (held ++ more) m.head (m.body ++ rest) =
    (b.message.head, b.whole ∙ append_assoc (print_response m.head) m.body rest) in
    absurd (omega (arith, over more m.head (m.body ++ rest) reads, b.message.fields))
