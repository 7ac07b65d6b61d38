use Rattle.std.proofs.Common.{◌≡◌, ◌+◌, ◌≤◌, length}
use Rattle.std.specs.Io.KnownBytes.{prepend_known}
use Rattle.peer_wire.specs.Room.{stream}
use Rattle.peer_wire.proofs.bodies.read_body.Given as goal

-- the bytes so far left the stream, and the others are missing
abbrev pub invariant-more : goal.invariant-more
invariant-more g l = record {
  counted : length l.body.items + l.missing ≡ l.size;
  kept : stream l.fn.room (g.S.Source.left l.fn.source) ≡ prepend_known l.body.items (stream l.room (g.S.Source.left l.source));
  aside : g.S.Source.aside l.source ≡ g.S.Source.aside l.fn.source;
  count : g.S.Source.faults l.fn.source ≤ g.S.Source.faults l.source;
}

abbrev pub decreases-more : goal.decreases-more
decreases-more g l = l.missing
