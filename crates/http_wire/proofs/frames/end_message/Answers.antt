use Rattle.std.proofs.Common.{Err, ◌++◌, take, sym, ap, ◌∙◌}
use Rattle.std.proofs.lemmas.Result.{err_from_is_err_and}
use Rattle.http_wire.specs.Held.{Held}
use Rattle.http_wire.specs.Room.{stream}
use Rattle.http_wire.proofs.FaultLemmas.{OnReadFault-passed}
use Rattle.http_wire.proofs.FrameLemmas.{stream_behind}
use Rattle.http_wire.proofs.RoomLemmas.{prepend_known-append}
use Rattle.outside_core.proofs.SinkLemmas.{OnErr-always}
use Rattle.http_wire.proofs.frames.end_message.Goals as goal

-- the body was cut short by a fault
pub returns-in_err-body-clause-partial : goal.returns-in_err-body-clause-partial
returns-in_err-body-clause-partial g c =
    let p = err_from_is_err_and c.from_residual.result c.from_residual.ensures.1 in
    let left = g.S.Source.left c.args.source.now in
    let dropped = ap (λ (room : Held). stream room left) c.drop_front.ensures in
    OnReadFault-passed c.from_residual.result c.in_err-body.field-0.0 (p.1 ∙ ap Err p.2)
    (λ taken. (taken.0, taken.1, stream_behind c.args.room.now.held c.args.len left _ (sym dropped ∙ taken.2)))
    c.in_err-body.ensures.partial

-- the head and then the body left the stream
pub returns-clause-body : goal.returns-clause-body
returns-clause-body g c =
    let left = g.S.Source.left c.args.source.now in
    let body = c.in_ok-body.ensures.body in
    let dropped = ap (λ (room : Held). stream room left) c.drop_front.ensures in
    rw c.advance.ensures
    (body.0, body.1, body.2, stream_behind c.args.room.now.held c.args.len left _ (sym dropped ∙ body.3))

-- the head and what was taken of the body are gone
pub returns-in_err-body-clause-lost : goal.returns-in_err-body-clause-lost
returns-in_err-body-clause-lost g c =
    let head = take c.args.len c.args.room.now.held in
    let left = g.S.Source.left c.args.source.now in
    let dropped = ap (λ (room : Held). stream room left) c.drop_front.ensures in
    let lost = c.in_err-body.ensures.lost in
    OnErr-always c.from_residual.result (
      head ++ lost.0,
      stream_behind c.args.room.now.held c.args.len left _ (sym dropped ∙ lost.1) ∙ sym (prepend_known-append head lost.0 _),
    )
