use Rattle.std.proofs.Common.{◌≡◌, map, take, codes}
use Rattle.httparse.specs.Spans.{header_bytes}
use Rattle.http_routes.specs.Connections as connections
use Rattle.http_wire.specs.Fields.{values_named}
use Rattle.http_wire.proofs.fields.closes.Given as goal

-- what the headers so far say
abbrev pub invariant-loop-header : goal.invariant-loop-header
invariant-loop-header l =
    l.closed ≡ connections.closes (values_named (codes "connection") (map (header_bytes l.held) (take l.header-index l.headers)))
