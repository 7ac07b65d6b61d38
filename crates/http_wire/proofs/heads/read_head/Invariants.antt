use Rattle.std.proofs.Common.{◌≡◌, ◌<◌, ◌≤◌, ◌-◌, length}
use Rattle.http_wire.specs.Room.{stream}
use Rattle.http_wire.proofs.heads.read_head.Given as goal

-- nothing is lost, and the room holds some of the head
abbrev pub invariant-more : goal.invariant-more
invariant-more g l = record {
  kept : stream l.room (g.S.Source.left l.source) ≡ stream l.fn.room (g.S.Source.left l.fn.source);
  begun : 0 < length l.room.held;
  headers : length l.headers ≡ 64;
  place : l.room.place ≡ l.fn.room.place;
  aside : g.S.Source.aside l.source ≡ g.S.Source.aside l.fn.source;
  count : g.S.Source.faults l.fn.source ≤ g.S.Source.faults l.source;
}

-- the room fills
abbrev pub decreases-more : goal.decreases-more
decreases-more g l = 16384 - length l.room.held
