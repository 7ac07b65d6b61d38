use Rattle.std.proofs.Common.{List, ℕ, subst}
use Rattle.httparse.specs.Spans.{header_bytes}
use Rattle.http_routes.specs.Headers.{Stands}
use Rattle.http_wire.proofs.FieldLemmas.{values_named-more}
use Rattle.http_wire.proofs.fields.value_named.Goals as goal

-- one more header was looked at
pub loop-header-preserved : goal.loop-header-preserved
loop-header-preserved c =
    let P : List (List ℕ) → Type 0 = λ values. Stands c.and_header-named.result values in
    subst P (values_named-more c.args.name.now (header_bytes c.args.held.now) c.args.headers.now c.loop-header.header-index _ c.loop-header-test.true)
    (c.and_header-named.ensures _ c.loop-header.invariant)
