-- Either all that waited went out, or the write failed.
use Rattle.answer_stream.proofs.EndLemmas.{cause_later, ended, ended_cut}
use Rattle.answer_stream.proofs.turns.answer_all.Goals as goal

pub returns-in-Ok-clause-end : goal.returns-in-Ok-clause-end
returns-in-Ok-clause-end g c =
    ended g.A.Answering.answers c.answer_messages-end.result _ _ _ _ _ _ _ _ c.in-Ok.ensures.ok c.answer_messages-end.ensures.end

pub returns-in-Err-clause-end : goal.returns-in-Err-clause-end
returns-in-Err-clause-end g c =
    ended_cut g.A.Answering.answers c.answer_messages-end.result _ _ _ _ _ _ _ _ c.in-Err.ensures.failed c.answer_messages-end.ensures.end

pub returns-in-Ok-clause-cause : goal.returns-in-Ok-clause-cause
returns-in-Ok-clause-cause g c =
    cause_later c.answer_messages-end.result _ _ _ _ _ c.answer_messages-end.ensures.written c.in-Ok.ensures.cause.later c.answer_messages-end.ensures.cause
