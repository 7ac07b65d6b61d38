-- The three pieces are the line.
use Rattle.std.proofs.Common.{ap, subst, ◌∙◌, ◌++◌, OnErr}
use Rattle.outside_core.specs.Sink.{GainsPart}
use Rattle.chefsite.proofs.NoteLemmas.{request_line}
use Rattle.chefsite.proofs.notes.write_request.Goals as goal

pub returns-clause-failed : goal.returns-clause-failed
returns-clause-failed g c =
    subst (λ bytes. OnErr c.write_pieces.result (GainsPart (g.N.Sink.gained c.args.notes.now) (g.N.Sink.gained c.write_pieces.new.notes) bytes))
    (request_line _ _ _ _ _ _ _ (c.push.ensures.items ∙ ap (λ s. c.args.front.items ++ s) (c.as_bytes.ensures.value ∙ c.as_str.ensures)) c.push-2.ensures.items c.deref.ensures.0 c.as_bytes-2.ensures.value)
    c.write_pieces.ensures.failed
