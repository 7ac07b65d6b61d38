use Rattle.std.proofs.Common.{◌≡◌, ℕ, ◌+◌, ◌≤◌, List, length}
use Rattle.std.specs.Io.KnownBytes.{prepend_known}
use Rattle.http_wire.specs.Bodies.{IsBody}
use Rattle.http_wire.specs.Room.{stream}
use Rattle.http_wire.proofs.bodies.read_body.Given as goal

-- the bytes so far left the stream, and the others are missing
abbrev pub invariant-more : goal.invariant-more
invariant-more g l = record {
  so_far : (done : List ℕ) × (length done + l.missing ≡ l.size) × IsBody l.fn.form l.size done l.body
      × (stream l.fn.room (g.S.Source.left l.fn.source) ≡ prepend_known done (stream l.room (g.S.Source.left l.source)));
  place : l.room.place ≡ l.fn.room.place;
  aside : g.S.Source.aside l.source ≡ g.S.Source.aside l.fn.source;
  count : g.S.Source.faults l.fn.source ≤ g.S.Source.faults l.source;
}

abbrev pub decreases-more : goal.decreases-more
decreases-more g l = l.missing
