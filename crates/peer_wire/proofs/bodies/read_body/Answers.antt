use Rattle.std.proofs.Common.{◌≡◌, ◌≤◌, ◌++◌, length, take, sym, ap, ◌∙◌, arith}
use Rattle.std.specs.Io.KnownBytes.{prepend_known}
use Rattle.http_wire.proofs.BodyLemmas.{piece_counted, piece_taken}
use Rattle.outside_core.proofs.SinkLemmas.{OnErr-always}
use Rattle.peer_wire.proofs.bodies.read_body.Goals as goal

-- one more piece of the body was kept
pub more-preserved : goal.more-preserved
more-preserved g c =
    let done = c.more.body.items in
    let held = c.has_more.new.self in
    let n = c.min-count.result in
    let small : n ≤ c.more.missing = omega (arith, c.min-count.ensures) in
    let some : n ≤ length held = omega (arith, c.min-count.ensures, ap length c.held.ensures.bytes) in
    let body : c.extend.new.body.items ≡ done ++ take n held =
    c.in_ok-extend.ensures.ok ∙ ap (λ xs. done ++ take n xs) c.held-in-more.ensures.bytes in
    rw (c.drop_front.ensures, body)
    record {
      counted = piece_counted done held n c.more.missing c.args.size small some c.more.invariant.counted;
      kept = piece_taken done held n _ _ (c.more.invariant.kept ∙ ap (prepend_known done) (sym c.in_ok-has_more.ensures.kept));
      aside = c.in_ok-has_more.ensures.aside ∙ c.more.invariant.aside;
      count = omega (arith, c.more.invariant.count, c.in_ok-has_more.ensures.cause.later);
    }

-- what was taken of the body is gone
pub returns-in_err-has_more-clause-lost : goal.returns-in_err-has_more-clause-lost
returns-in_err-has_more-clause-lost g c =
    OnErr-always c.from_residual.result
    (c.more.body.items, c.more.invariant.kept ∙ ap (prepend_known c.more.body.items) (sym c.in_err-has_more.ensures.kept))
