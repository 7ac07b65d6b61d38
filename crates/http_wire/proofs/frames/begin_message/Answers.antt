use Rattle.std.proofs.Common.{◌≡◌, None, map, take, sym, ap, ◌∙◌, subst}
use Rattle.httparse.specs.Spans.{header_bytes}
use Rattle.http_wire.specs.Message.{headers_of}
use Rattle.http_wire.specs.Frames.{framed_size}
use Rattle.http_wire.specs.Faults.{NoneBeginsIn}
use Rattle.http_wire.proofs.FrameLemmas.{none_in_unframed}
use Rattle.http_wire.proofs.frames.begin_message.Goals as goal

-- the head frames no message
pub returns-in-None-clause-none : goal.returns-in-None-clause-none
returns-in-None-clause-none g c =
    let room = c.read_head.new.room in
    let spans = c.in-Some.spans in
    let head = rw c.in-Some.is at c.in_ok-spans.ensures.head in
    let fields : map (header_bytes c.held.result.now) (take spans.headers c.read_head.new.headers) ≡ headers_of head.0 =
    ap (λ bytes. map (header_bytes bytes) (take spans.headers c.read_head.new.headers)) c.held.ensures.bytes ∙ head.1.fields in
    let none : framed_size c.place.result spans.len (headers_of head.0) ≡ None =
    ap (framed_size c.place.result spans.len) (sym fields) ∙ sym c.in-None.ensures in
    let here = none_in_unframed c.place.result spans.len room.held (g.S.Source.left c.read_head.new.source) head.0 _ head.1.reads head.1.len none c.place.ensures.early in
    rw c.no_message.ensures (
      c.in_ok-spans.ensures.place,
      subst (NoneBeginsIn room.place) c.in_ok-spans.ensures.kept (rw c.place.ensures.place at here),
    )
