use Rattle.std.proofs.Common.{◌≡◌, None, IfSome, map, take, drop, sym, ap, ◌∙◌, subst, arith}
use Rattle.httparse.specs.Spans.{header_bytes}
use Rattle.peer_wire.specs.Answer.{NoReply, headers_of}
use Rattle.peer_wire.specs.Fields.{body_length, is_octets}
use Rattle.peer_wire.proofs.StreamLemmas.{none_unframed, fields_fit}
use Rattle.peer_wire.proofs.heads.begin_reply.Goals as goal

-- the head doesn't say one length
pub returns-in-None-clause-none : goal.returns-in-None-clause-none
returns-in-None-clause-none g c =
    let head = c.in_ok-spans.ensures.head in
    let fields : map (header_bytes c.held-bytes.result.now) (take c.in_ok-spans.spans.headers c.read_head.new.headers) ≡ headers_of head.0 =
    ap (λ bytes. map (header_bytes bytes) (take c.in_ok-spans.spans.headers c.read_head.new.headers)) c.held-bytes.ensures.bytes ∙ head.1.fields in
    let none : body_length (headers_of head.0) ≡ None = ap body_length (sym fields) ∙ sym c.in-None.ensures in
    subst (λ s. IfSome s NoReply) c.in_ok-spans.ensures.kept (none_unframed c.read_head.new.room _ head.0 _ head.1.reads none)

-- the head says its reply's frame
pub returns-in-Some-clause-head : goal.returns-in-Some-clause-head
returns-in-Some-clause-head g c =
    let head = c.in_ok-spans.ensures.head in
    let within = c.in_ok-spans.ensures.within in
    let fields : map (header_bytes c.held-bytes.result.now) (take c.in_ok-spans.spans.headers c.read_head.new.headers) ≡ headers_of head.0 =
    ap (λ bytes. map (header_bytes bytes) (take c.in_ok-spans.spans.headers c.read_head.new.headers)) c.held-bytes.ensures.bytes ∙ head.1.fields in (
      head.0,
      drop c.in_ok-spans.spans.len c.read_head.new.room,
      record {
        reads = head.1.reads;
        len = head.1.len;
        status = head.1.code;
        octets = c.is_octets.ensures ∙ ap is_octets fields;
        body = ap body_length (sym fields) ∙ sym c.in-Some.ensures;
        small = omega (arith, head.1.len, within.section.len_fits, c.in_ok-spans.ensures.fits);
        fields = fields_fit _ (header_bytes c.read_head.new.room) c.read_head.new.headers c.in_ok-spans.spans.headers head.0 head.1.fields c.read_head.auto.headers;
        within = within.section.len_fits;
      },
    )
