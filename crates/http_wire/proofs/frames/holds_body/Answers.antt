use Rattle.std.proofs.Common.{◌≤◌, refl, sym, ap, ◌∙◌, arith}
use Rattle.httparse.specs.Spans.{header_bytes}
use Rattle.http_wire.specs.Message.{headers_of}
use Rattle.http_wire.specs.Fields.{body_length}
use Rattle.http_wire.specs.Frames.{framed_size}
use Rattle.http_wire.proofs.FrameLemmas.{held_message, not_framed, fields_fit}
use Rattle.http_wire.proofs.frames.holds_body.Goals as goal

-- the head is framed, and its body is held or isn't
pub returns-in-Some : goal.returns-in-Some
returns-in-Some c =
    let spans = c.args.spans in
    let head = c.requires.head in
    let small : spans.len ≤ 16384 = omega (arith, c.requires.short, c.requires.within.section.len_fits) in
    held_message c.args.place spans.len c.in-Some.size c.args.held.now head.0 _ head.1.reads head.1.len small
    (fields_fit _ (header_bytes c.args.held.now) c.args.headers.now spans.headers head.0 head.1.fields c.requires.few)
    (ap (framed_size c.args.place spans.len) (sym head.1.fields) ∙ sym c.in-Some.ensures)

-- the head frames no message
pub returns-in-None : goal.returns-in-None
returns-in-None c =
    let spans = c.args.spans in
    let head = c.requires.head in
    not_framed c.args.place spans.len (body_length (headers_of head.0)) c.args.held.now head.0 _ head.1.reads head.1.len refl
    (ap (framed_size c.args.place spans.len) (sym head.1.fields) ∙ sym c.in-None.ensures) c.requires.early
