use Rattle.std.proofs.Common.{◌≡◌, map, take, codes}
use Rattle.httparse.specs.Spans.{header_bytes}
use Rattle.http_wire.specs.Fields.{values_named}
use Rattle.peer_wire.specs.Fields.{lists_octets}
use Rattle.peer_wire.proofs.fields.is_octets.Given as goal

-- what the headers so far say
abbrev pub invariant-loop-header : goal.invariant-loop-header
invariant-loop-header l =
    l.octets ≡ lists_octets (values_named (codes "content-type") (map (header_bytes l.held) (take l.header-index l.headers)))
