use Rattle.std.proofs.Common.{ℕ, ◌++◌, Err, refl, take, sym, ◌∙◌, subst}
use Rattle.httparse.specs.Spans.{IsRequestAt}
use Rattle.http_routes.specs.Requests.{head_in}
use Rattle.http_wire.specs.Bodies.{IsBody}
use Rattle.http_wire.specs.Faults.{NoneBeginsIn}
use Rattle.http_wire.specs.Message.{Message}
use Rattle.http_wire.specs.Requests.{callers_in, versions_in, connections_in}
use Rattle.http_wire.specs.Room.{stream}
use Rattle.org_requests.specs.declared.requests.Request.{Request}
use Rattle.http_wire.proofs.FaultLemmas.{OnReadFault-passed, OnNotAMessage-passed}
use Rattle.http_wire.proofs.FrameLemmas.{framed_takes, framed_place, framed_cut, framed_none}
use Rattle.http_wire.proofs.RoomLemmas.{prepend_known-append}
use Rattle.outside_core.proofs.SinkLemmas.{OnErr-always}
use Rattle.http_wire.proofs.requests.read_framed.Goals as goal

-- the stream ended within the body
pub returns-in-Err-clause-none : goal.returns-in-Err-clause-none
returns-in-Err-clause-none g c =
    let frame = c.args.frame in
    let room = c.args.room.now in
    let left = g.S.Source.left c.args.source.now in
    let head = c.requires.head in
    let P : ℕ → Type 0 = λ place. NoneBeginsIn place (stream room left) in
    OnNotAMessage-passed {T = Request} (Err c.in-Err.fault) c.in-Err.fault refl
    (λ place none. (
      none.0,
      subst P (sym none.0)
          (framed_none room.place frame.size frame.spans.len room.held left head.0 _ head.1.reads head.1.len head.2 none.1),
    ))
    c.in-Err.ensures.none

-- the source failed within the body
pub returns-in-Err-clause-partial : goal.returns-in-Err-clause-partial
returns-in-Err-clause-partial g c =
    let frame = c.args.frame in
    let room = c.args.room.now in
    let head = c.requires.head in
    OnReadFault-passed {T = Request} (Err c.in-Err.fault) c.in-Err.fault refl
    (λ taken. (
      take frame.spans.len room.held ++ taken.0,
      framed_cut room.place frame.size frame.spans.len room.held head.0 _ taken.0 head.1.reads head.1.len head.2 taken.1,
      taken.2 ∙ sym (prepend_known-append (take frame.spans.len room.held) taken.0 (g.S.Source.left c.end_message.new.source)),
    ))
    c.in-Err.ensures.partial

-- the head and its body are the message
pub returns-in-Ok-clause-message : goal.returns-in-Ok-clause-message
returns-in-Ok-clause-message g c =
    let frame = c.args.frame in
    let room = c.args.room.now in
    let head = c.requires.head in
    let body = c.in-Ok.ensures.body in
    let m : Message = record { head = head.0; body = body.0 } in
    let at = subst (λ held. IsRequestAt held c.args.headers.now frame.spans head.0) (sym c.held.ensures.bytes) head.1 in
    let whole = subst (λ size. IsBody c.body_form-form.result size body.0 c.in-Ok.body) (sym body.1) body.2 in (
      m,
      c.request_from.ensures (head_in head.0.method head.0.target (callers_in head.0) (versions_in head.0) (connections_in head.0)) body.0
          (c.read_parts-head.ensures head.0 at) c.body_form-form.ensures whole,
      framed_takes room.place frame.size frame.spans.len room.held head.0 _ body.0 _ _ head.1.reads head.1.len head.2 body.1 body.3,
      c.in-Ok.ensures.place ∙ framed_place room.place frame.size frame.spans.len head.0 body.0 head.1.len body.1,
    )

-- what was lost of the message is gone
pub returns-in-Err-clause-lost : goal.returns-in-Err-clause-lost
returns-in-Err-clause-lost g c = OnErr-always {T = Request} (Err c.in-Err.fault) c.in-Err.ensures.lost
