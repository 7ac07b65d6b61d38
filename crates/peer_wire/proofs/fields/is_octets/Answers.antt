use Rattle.std.proofs.Common.{◌≡◌, List, ℕ, subst, codes}
use Rattle.httparse.specs.Spans.{header_bytes}
use Rattle.http_wire.proofs.FieldLemmas.{values_named-more}
use Rattle.peer_wire.specs.Fields.{lists_octets}
use Rattle.peer_wire.proofs.fields.is_octets.Goals as goal

-- one more header was looked at
pub loop-header-preserved : goal.loop-header-preserved
loop-header-preserved c =
    let P : List (List ℕ) → Type 0 = λ values. c.or_header-octets.result ≡ lists_octets values in
    subst P (values_named-more (codes "content-type") (header_bytes c.args.held.now) c.args.headers.now c.loop-header.header-index _ c.loop-header-test.true)
    (c.or_header-octets.ensures _ c.loop-header.invariant)
