use Rattle.std.proofs.Common.{map, take}
use Rattle.httparse.specs.Spans.{header_bytes}
use Rattle.http_wire.specs.Fields.{values_named}
use Rattle.http_routes.specs.Headers.{Stands}
use Rattle.http_wire.proofs.fields.value_named.Given as goal

-- what the headers so far say
abbrev pub invariant-loop-header : goal.invariant-loop-header
invariant-loop-header l = Stands l.named (values_named l.name (map (header_bytes l.held) (take l.header-index l.headers)))
