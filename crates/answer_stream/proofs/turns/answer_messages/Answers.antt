-- The loop begins with nothing answered, and goes on by one message a turn.
use Rattle.std.proofs.Common.{◌<◌, length, arith}
use Rattle.http_wire.specs.Message.{print_message}
use Rattle.http_wire.proofs.StreamLemmas.{print_message-some}
use Rattle.answer_stream.proofs.TurnLemmas.{at_first, after_emptying, cut_emptying, one_turn, last_turn}
use Rattle.answer_stream.proofs.turns.answer_messages.Goals as goal

pub messages-init : goal.messages-init
messages-init g c = record {
  so_far = at_first g.A.Answering.answers c.args.answerer.now _ _ _ _ c.requires.room c.requires.buffer;
  read = omega arith;
  written = omega arith;
}

pub messages-smaller : goal.messages-smaller
messages-smaller g c =
    let turn = c.in-Ok-answer_next.ensures.turn in
    let bytes : 0 < length (print_message turn.0) = print_message-some turn.0 in
    omega (arith, turn.2.takes.ends, turn.3, bytes)

pub messages-preserved : goal.messages-preserved
messages-preserved g c = record {
  so_far =
      one_turn g.A.Answering.answers _ _ _ _ _ _ _ _ _ _ _ _ _
      (after_emptying g.A.Answering.answers _ _ _ _ _ _ _ _ _ _ c.messages.invariant.so_far c.in-Ok.ensures.ok)
      c.in-Ok-answer_next.ensures.turn;
  read = omega (arith, c.messages.invariant.read, c.in-Ok-answer_next.ensures.read);
  written = omega (arith, c.messages.invariant.written, c.in-Ok.ensures.cause.later, c.in-Ok-answer_next.ensures.written);
}

pub returns-in-Err-answer_next-clause-end : goal.returns-in-Err-answer_next-clause-end
returns-in-Err-answer_next-clause-end g c =
    last_turn g.A.Answering.answers c.in-Err-answer_next.end _ _ _ _ _ _ _ _ _ _ _ _
    (after_emptying g.A.Answering.answers _ _ _ _ _ _ _ _ _ _ c.messages.invariant.so_far c.in-Ok.ensures.ok)
    c.in-Err-answer_next.ensures.end

pub returns-in-Err-clause-end : goal.returns-in-Err-clause-end
returns-in-Err-clause-end g c =
    (cut_emptying g.A.Answering.answers _ _ _ _ _ _ _ _ _ c.messages.invariant.so_far c.in-Err.ensures.failed, c.in-Err.ensures.dropped)
