-- A message was taken and its request answered, and the reply went behind what waited, or wasn't written.
use Rattle.answer_stream.proofs.TurnLemmas.{ended_turn, taken_turn}
use Rattle.answer_stream.proofs.turns.answer_next.Goals as goal

pub returns-in-Ok-Some-clause-end : goal.returns-in-Ok-Some-clause-end
returns-in-Ok-Some-clause-end g c =
    ended_turn g.A.Answering.answers c.answer_and_write.result c.args.room.now.place c.read_message.new.room.place _ _ _ c.args.answerer.now c.answer_and_write.new.answerer _ _ _ _
    c.in-Ok-Some.field-0 c.in-Ok-Some.request c.in-Ok-Some.field-0-is c.in-Ok-Some.ensures.message
    c.answer_and_write.ensures.answered c.answer_and_write.ensures.fault c.answer_and_write.ensures.dropped

pub returns-in-Ok-Some-clause-turn : goal.returns-in-Ok-Some-clause-turn
returns-in-Ok-Some-clause-turn g c =
    taken_turn g.A.Answering.answers c.answer_and_write.result c.args.room.now.place c.read_message.new.room.place _ _ c.args.answerer.now c.answer_and_write.new.answerer _ _ _ _
    c.in-Ok-Some.field-0 c.in-Ok-Some.request c.in-Ok-Some.field-0-is c.in-Ok-Some.ensures.message c.answer_and_write.ensures.answered
