use Rattle.std.proofs.Common.{List, ℕ, [], OnErr, subst, ◌∙◌}
use Rattle.outside_core.specs.Sink.{GainsPart}
use Rattle.outside_core.proofs.SinkLemmas.{GainsPart-longer, GainsPart-write, OnErr-always}
use Rattle.http_wire.proofs.ReplyLemmas.{reply_pieces}
use Rattle.http_wire.proofs.replies.write_reply.Goals as goal

-- a front of the head is a front of the text
pub returns-in_err-write-clause-failed : goal.returns-in_err-write-clause-failed
returns-in_err-write-clause-failed g c =
    let text = reply_pieces c.args.reply.now [] c.deref.result.now c.as_slice-body.result.now
    (c.deref.ensures.0 ∙ c.head_of-head.ensures) c.as_slice-body.ensures in
    let P : List ℕ → Type 0 = GainsPart (g.K.Sink.gained c.args.sink.now) (g.K.Sink.gained c.write.new.self) in
    OnErr-always c.from_residual.result
    (subst P text (GainsPart-longer _ _ _ c.as_slice-body.result.now c.in_err-write.ensures.failed))

-- the head went out, and a front of the body
pub returns-clause-failed : goal.returns-clause-failed
returns-clause-failed g c =
    let text = reply_pieces c.args.reply.now [] c.deref.result.now c.as_slice-body.result.now
    (c.deref.ensures.0 ∙ c.head_of-head.ensures) c.as_slice-body.ensures in
    let P : List ℕ → Type 0 =
    λ bytes. OnErr c.write-2.result (GainsPart (g.K.Sink.gained c.args.sink.now) (g.K.Sink.gained c.write-2.new.self) bytes) in
    subst P text (GainsPart-write c.write-2.result _ _ _ _ c.as_slice-body.result.now c.in_ok-write.ensures.ok c.write-2.ensures.failed)
