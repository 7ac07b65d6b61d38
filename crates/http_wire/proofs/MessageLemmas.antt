-- Which bytes begin with no message, and that a message is known by its bytes.
use Rattle.std.proofs.Common.{◌≡◌, ℕ, ◌+◌, ◌<◌, ◌≤◌, List, ◌++◌, length, take, drop, Some, None, sym, ap, ◌∙◌, arith, append_assoc, length-append, take-append-drop}
use Rattle.std.proofs.lemmas.List.{take-append-le}
use Rattle.std.proofs.Math.Seq.{take-append_seam, drop-append_seam}
use Rattle.httparse.specs.Grammar.{RequestHead, ReadsRequest, HasNoRequest, print_request}
use Rattle.httparse.specs.Spans.{RequestOverflows}
use Rattle.httparse.proofs.GrammarLemmas.{request_unique}
use Rattle.http_wire.specs.Fields.{body_length}
use Rattle.http_wire.specs.Message.{Message, headers_of, Begins, BeginsNone}

-- the head of a message at the front of the bytes is the head there
pub same_head : (limit : ℕ) (bytes : List ℕ) (h : RequestHead) (tail : List ℕ) (m : Message) (rest : List ℕ)
    → ReadsRequest bytes h tail → Begins limit bytes m rest → (h ≡ m.head) × (tail ≡ m.body ++ rest)
same_head limit bytes h tail m rest r b =
    request_unique bytes h m.head tail (m.body ++ rest) r
    (b.message.head, b.whole ∙ append_assoc (print_request m.head) m.body rest)

-- no message begins where the head doesn't say how long its body is
pub unframed : (limit : ℕ) (bytes : List ℕ) (h : RequestHead) (tail : List ℕ)
    → ReadsRequest bytes h tail → body_length (headers_of h) ≡ None → BeginsNone limit bytes
unframed limit bytes h tail r none m rest b =
    let same = (same_head limit bytes h tail m rest r b).0 in
    let said : body_length (headers_of h) ≡ Some (length m.body) = ap (λ k. body_length (headers_of k)) same ∙ b.message.body in
    cc

-- no message begins where less is left than the head says
pub cut_short : (limit : ℕ) (bytes : List ℕ) (h : RequestHead) (tail : List ℕ) (size : ℕ)
    → ReadsRequest bytes h tail → body_length (headers_of h) ≡ Some size → length tail < size → BeginsNone limit bytes
cut_short limit bytes h tail size r says less m rest b =
    let same = same_head limit bytes h tail m rest r b in
    let said : Some size ≡ Some (length m.body) = sym says ∙ ap (λ k. body_length (headers_of k)) same.0 ∙ b.message.body in
    let size_is : size ≡ length m.body = cc in
    let long : length tail ≡ length m.body + length rest = ap length same.1 ∙ length-append m.body rest in
    omega arith

-- no message begins where the one that the head says would end too far
pub too_far : (limit : ℕ) (bytes : List ℕ) (h : RequestHead) (tail : List ℕ) (size : ℕ)
    → ReadsRequest bytes h tail → body_length (headers_of h) ≡ Some size
    → limit < length (print_request h) + size → BeginsNone limit bytes
too_far limit bytes h tail size r says far m rest b =
    let same = same_head limit bytes h tail m rest r b in
    let said : Some size ≡ Some (length m.body) = sym says ∙ ap (λ k. body_length (headers_of k)) same.0 ∙ b.message.body in
    let size_is : size ≡ length m.body = cc in
    let head_is : length (print_request h) ≡ length (print_request m.head) = ap (λ k. length (print_request k)) same.0 in
    let ends : length (print_request m.head ++ m.body) ≤ limit = b.ends in
    omega (arith, length-append (print_request m.head) m.body)

-- no message begins where no head does
pub headless : (limit : ℕ) (bytes : List ℕ) → HasNoRequest bytes → BeginsNone limit bytes
headless limit bytes none m rest b =
    none m.head (m.body ++ rest) (b.message.head, b.whole ∙ append_assoc (print_request m.head) m.body rest)

-- no message begins where what is held is as long as a head may be, and begins with none
pub overlong : (limit : ℕ) (held more : List ℕ) → HasNoRequest held → 16384 ≤ length held → BeginsNone limit (held ++ more)
overlong limit held more none long m rest b =
    let head = print_request m.head in
    let tail = m.body ++ rest in
    let whole : held ++ more ≡ head ++ tail = b.whole ∙ append_assoc head m.body rest in
    let within : length head ≤ length held = omega (arith, b.message.size) in
    let front : take (length head) held ≡ head =
    sym (take-append-le (length head) held more within) ∙ ap (take (length head)) whole ∙ take-append_seam head tail in
    let split : held ≡ head ++ drop (length head) held =
    sym (take-append-drop (length head) held) ∙ ap (λ xs. xs ++ drop (length head) held) front in
    none m.head (drop (length head) held) (b.message.head, split)

-- no message begins where every head has too many fields
pub overflowing : (limit : ℕ) (held more : List ℕ) → RequestOverflows 64 held → BeginsNone limit (held ++ more)
overflowing limit held more over m rest b =
    let reads : ReadsRequest (held ++ more) m.head (m.body ++ rest) =
    (b.message.head, b.whole ∙ append_assoc (print_request m.head) m.body rest) in
    absurd (omega (arith, over more m.head (m.body ++ rest) reads, b.message.fields))

-- two splits of the same bytes at the same length are one
pub same_split : (a b x y : List ℕ) → length a ≡ length b → a ++ x ≡ b ++ y → (a ≡ b) × (x ≡ y)
same_split a b x y e p = (
  sym (take-append_seam a x) ∙ ap (take (length a)) p ∙ ap (λ n. take n (b ++ y)) e ∙ take-append_seam b y,
  sym (drop-append_seam a x) ∙ ap (drop (length a)) p ∙ ap (λ n. drop n (b ++ y)) e ∙ drop-append_seam b y,
)

-- a message is its head and its body
pub same_message : (m n : Message) → m.head ≡ n.head → m.body ≡ n.body → m ≡ n
same_message m n e f =
    let P : RequestHead → List ℕ → Message = λ h b. record { head = h; body = b } in
    let heads : m ≡ P n.head m.body = ap (λ h. P h m.body) e in
    let bodies : P n.head m.body ≡ n = ap (λ b. P n.head b) f in
    heads ∙ bodies

-- a message that begins the bytes is the only one
pub one_message : (limit : ℕ) (bytes : List ℕ) (m n : Message) (rest other : List ℕ)
    → Begins limit bytes m rest → Begins limit bytes n other → (m ≡ n) × (rest ≡ other)
one_message limit bytes m n rest other b d =
    let reads : ReadsRequest bytes m.head (m.body ++ rest) =
    (b.message.head, b.whole ∙ append_assoc (print_request m.head) m.body rest) in
    let same = same_head limit bytes m.head (m.body ++ rest) n other reads d in
    let said : Some (length m.body) ≡ Some (length n.body) =
    sym b.message.body ∙ ap (λ k. body_length (headers_of k)) same.0 ∙ d.message.body in
    let parts = same_split m.body n.body rest other (cc) same.1 in
    (same_message m n same.0 parts.0, parts.1)
