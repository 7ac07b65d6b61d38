-- A text that is put together piece by piece, and pieces that go through a buffer.
use Rattle.std.proofs.Common.{◌≡◌, ℕ, List, [], ◌++◌, length, Result, Ok, Err, OnOk, OnErr, refl, sym, ap, ◌∙◌, append_assoc}
use Rattle.std.specs.declared.option.Option.{Option}
use Rattle.std.specs.Io.KnownBytes.{append_known}
use Rattle.org_requests.specs.declared.replies.Reply.{Reply}
use Rattle.http_wire.specs.Replies.{head_text, reply_text}
use Rattle.outside_core.specs.Sink.{GainsPart, PassesOn}
use Rattle.outside_core.proofs.SinkLemmas.{append_known-append}

-- nine pieces behind nothing, of which the second, fourth, sixth and eighth are known by equations
pub nine_pieces : (h0 h1 h2 h3 h4 h5 h6 h7 h8 h9 a b b' c d d' e f f' g h h' i : List ℕ) → h0 ≡ []
    → h1 ≡ h0 ++ a → h2 ≡ h1 ++ b' → b' ≡ b → h3 ≡ h2 ++ c → h4 ≡ h3 ++ d' → d' ≡ d → h5 ≡ h4 ++ e
    → h6 ≡ h5 ++ f' → f' ≡ f → h7 ≡ h6 ++ g → h8 ≡ h7 ++ h' → h' ≡ h → h9 ≡ h8 ++ i
    → h9 ≡ a ++ b ++ c ++ d ++ e ++ f ++ g ++ h ++ i
nine_pieces h0 h1 h2 h3 h4 h5 h6 h7 h8 h9 a b b' c d d' e f f' g h h' i p0 p1 p2 q2 p3 p4 q4 p5 p6 q6 p7 p8 q8 p9 =
    let first : [] ++ a ≡ a = refl in
    cc

-- two pieces that went through a buffer are one
pub PassesOn-both : {T E : Type 0} (r : Result T E) (old mid new : Option (List ℕ)) (bytes more waiting left : List ℕ)
    → PassesOn old mid bytes waiting → OnOk r (PassesOn mid new (waiting ++ more) left) → OnOk r (PassesOn old new (bytes ++ more) left)
PassesOn-both (Err e) old mid new bytes more waiting left p q = tt
PassesOn-both (Ok x) old mid new bytes more waiting left p q = (
  p.0 ++ q.0,
  ap (λ xs. xs ++ more) p.1 ∙ append_assoc p.0 waiting more ∙ ap (λ xs. p.0 ++ xs) q.1 ∙ sym (append_assoc p.0 q.0 left),
  q.2 ∙ ap (λ known. append_known known q.0) p.2 ∙ append_known-append old p.0 q.0,
)

-- a piece that went through a buffer, and then a front of what waited and another
pub GainsPart-both : {T E : Type 0} (r : Result T E) (old mid new : Option (List ℕ)) (bytes more waiting : List ℕ)
    → PassesOn old mid bytes waiting → OnErr r (GainsPart mid new (waiting ++ more)) → OnErr r (GainsPart old new (bytes ++ more))
GainsPart-both (Ok x) old mid new bytes more waiting p q = tt
GainsPart-both (Err e) old mid new bytes more waiting p q = (
  p.0 ++ q.0,
  q.1,
  ap (λ xs. xs ++ more) p.1 ∙ append_assoc p.0 waiting more ∙ ap (λ xs. p.0 ++ xs) q.2 ∙ sym (append_assoc p.0 q.0 q.1),
  q.3 ∙ ap (λ known. append_known known q.0) p.2 ∙ append_known-append old p.0 q.0,
)

-- a head and a body behind other bytes are a reply's text there
pub reply_pieces : (reply : Reply) (front head body : List ℕ) → head ≡ head_text reply.status reply.octets (length body)
    → body ≡ reply.body → (front ++ head) ++ body ≡ front ++ reply_text reply
reply_pieces reply front head body e f =
    append_assoc front head body
    ∙ ap (λ xs. front ++ (xs ++ body)) e
    ∙ ap (λ xs. front ++ (head_text reply.status reply.octets (length xs) ++ xs)) f
