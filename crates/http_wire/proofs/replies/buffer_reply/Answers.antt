use Rattle.std.proofs.Common.{List, ℕ, OnOk, OnErr, subst, ◌∙◌}
use Rattle.outside_core.specs.Sink.{GainsPart, PassesOn}
use Rattle.outside_core.proofs.SinkLemmas.{GainsPart-longer, OnErr-always}
use Rattle.http_wire.proofs.ReplyLemmas.{PassesOn-both, GainsPart-both, reply_pieces}
use Rattle.http_wire.proofs.replies.buffer_reply.Goals as goal

-- a front of what waited and the head is a front of what waited and the text
pub returns-in_err-write-clause-failed : goal.returns-in_err-write-clause-failed
returns-in_err-write-clause-failed g c =
    let text = reply_pieces c.args.reply.now c.args.buffer.now.waiting c.deref.result.now c.as_slice-body.result.now
    (c.deref.ensures.0 ∙ c.head_of-head.ensures) c.as_slice-body.ensures in
    let P : List ℕ → Type 0 = GainsPart (g.K.Sink.gained c.args.sink.now) (g.K.Sink.gained c.write.new.sink) in
    OnErr-always c.from_residual.result
    (subst P text (GainsPart-longer _ _ _ c.as_slice-body.result.now c.in_err-write.ensures.failed))

-- the head and the body went through
pub returns-clause-ok : goal.returns-clause-ok
returns-clause-ok g c =
    let text = reply_pieces c.args.reply.now c.args.buffer.now.waiting c.deref.result.now c.as_slice-body.result.now
    (c.deref.ensures.0 ∙ c.head_of-head.ensures) c.as_slice-body.ensures in
    let P : List ℕ → Type 0 =
    λ bytes. OnOk c.write-2.result (PassesOn (g.K.Sink.gained c.args.sink.now) (g.K.Sink.gained c.write-2.new.sink) bytes c.write-2.new.self.waiting) in
    subst P text (PassesOn-both c.write-2.result _ _ _ _ c.as_slice-body.result.now _ _ c.in_ok-write.ensures.ok c.write-2.ensures.ok)

-- the head went through, and then a front of what waited and the body
pub returns-clause-failed : goal.returns-clause-failed
returns-clause-failed g c =
    let text = reply_pieces c.args.reply.now c.args.buffer.now.waiting c.deref.result.now c.as_slice-body.result.now
    (c.deref.ensures.0 ∙ c.head_of-head.ensures) c.as_slice-body.ensures in
    let P : List ℕ → Type 0 =
    λ bytes. OnErr c.write-2.result (GainsPart (g.K.Sink.gained c.args.sink.now) (g.K.Sink.gained c.write-2.new.sink) bytes) in
    subst P text (GainsPart-both c.write-2.result _ _ _ _ c.as_slice-body.result.now _ c.in_ok-write.ensures.ok c.write-2.ensures.failed)
