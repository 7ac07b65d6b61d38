use Rattle.std.proofs.Common.{◌<◌, ◌++◌, Err, IfSome, length, take, sym, ap, ◌∙◌, subst}
use Rattle.std.proofs.lemmas.Result.{err_from_is_err_and}
use Rattle.std.specs.Io.KnownBytes.{prepend_known}
use Rattle.outside_core.proofs.SinkLemmas.{OnErr-always}
use Rattle.peer_wire.proofs.FaultLemmas.{OnNotAReply-passed}
use Rattle.peer_wire.proofs.StreamLemmas.{none_cut, framed_answer, framed_left, lost_behind}
use Rattle.peer_wire.proofs.replies.end_reply.Goals as goal

-- the head and the body are the reply
pub returns-clause-reply : goal.returns-clause-reply
returns-clause-reply g c =
    let left = g.S.Source.left c.args.source.now in
    let room = c.args.room.now in
    let f = c.requires.2 in
    let items = c.in_ok-body.body.items in
    let body = c.in_ok-body.ensures.body in
    let dropped = ap (λ r. prepend_known r left) (sym c.drop_front.ensures) ∙ body.1 in (
      record { head = c.requires.0; body = items },
      record { is = framed_answer room c.args.frame c.requires.0 c.requires.1 items f body.0; status = f.status; octets = f.octets; body = c.of.ensures },
      framed_left room c.args.frame c.requires.0 c.requires.1 items left _ f dropped,
    )

-- less is left than the head says
pub returns-in_err-body-clause-none : goal.returns-in_err-body-clause-none
returns-in_err-body-clause-none g c =
    let p = err_from_is_err_and c.from_residual.result c.from_residual.ensures.1 in
    let left = g.S.Source.left c.args.source.now in
    OnNotAReply-passed c.from_residual.result c.in_err-body.field-0.0 (p.1 ∙ ap Err p.2)
    (λ less. none_cut c.args.room.now left c.args.frame c.requires.0 c.requires.1 c.requires.2
    (subst (λ r. IfSome (prepend_known r left) (λ bytes. length bytes < c.args.frame.size)) c.drop_front.ensures less))
    c.in_err-body.ensures.none

-- the head and what was taken of the body are gone
pub returns-in_err-body-clause-lost : goal.returns-in_err-body-clause-lost
returns-in_err-body-clause-lost g c =
    let left = g.S.Source.left c.args.source.now in
    let lost = c.in_err-body.ensures.lost in
    OnErr-always c.from_residual.result (
      take c.args.frame.len c.args.room.now ++ lost.0,
      lost_behind c.args.room.now c.args.frame.len left _ lost.0 (ap (λ r. prepend_known r left) (sym c.drop_front.ensures) ∙ lost.1),
    )
