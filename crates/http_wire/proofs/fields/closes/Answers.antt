use Rattle.std.proofs.Common.{◌≡◌, List, ℕ, subst, codes}
use Rattle.httparse.specs.Spans.{header_bytes}
use Rattle.http_routes.specs.Connections as connections
use Rattle.http_wire.proofs.FieldLemmas.{values_named-more}
use Rattle.http_wire.proofs.fields.closes.Goals as goal

-- one more header was looked at
pub loop-header-preserved : goal.loop-header-preserved
loop-header-preserved c =
    let P : List (List ℕ) → Type 0 = λ values. c.or_header-closed.result ≡ connections.closes values in
    subst P (values_named-more (codes "connection") (header_bytes c.args.held.now) c.args.headers.now c.loop-header.header-index _ c.loop-header-test.true)
    (c.or_header-closed.ensures _ c.loop-header.invariant)
