use Rattle.std.proofs.Common.{◌≤◌, ◌-◌}
use Rattle.http_wire.specs.Room.{stream}
use Rattle.answer_stream.specs.Turns.{SoFar}
use Rattle.answer_stream.proofs.turns.answer_messages.Given as goal

abbrev pub invariant-messages : goal.invariant-messages
invariant-messages g l = record {
  so_far : SoFar g.A.Answering.answers l.fn.answerer l.answerer (g.I.Source.left l.fn.input) (stream l.room (g.I.Source.left l.input)) l.room.place
      (g.U.Sink.gained l.fn.output) (g.U.Sink.gained l.output) l.buffer.waiting;
  read : g.I.Source.faults l.fn.input ≤ g.I.Source.faults l.input;
  written : g.U.Sink.faults l.fn.output ≤ g.U.Sink.faults l.output;
}

abbrev pub decreases-messages : goal.decreases-messages
decreases-messages g l = 1099511627776 - l.room.place
