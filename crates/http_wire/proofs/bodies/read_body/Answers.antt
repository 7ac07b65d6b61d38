use Rattle.std.proofs.Common.{◌≤◌, ◌++◌, ℕ, List, length, take, sym, ap, ◌∙◌, subst, arith}
use Rattle.std.specs.Io.KnownBytes.{prepend_known}
use Rattle.http_wire.specs.Bodies.{IsBody}
use Rattle.http_wire.proofs.BodyLemmas.{piece_counted, piece_taken}
use Rattle.outside_core.proofs.SinkLemmas.{OnErr-always}
use Rattle.http_wire.proofs.bodies.read_body.Goals as goal

-- one more piece of the body was kept
pub more-preserved : goal.more-preserved
more-preserved g c =
    let before = c.more.invariant.so_far in
    let held = c.has_more.new.self.held in
    let n = c.min-count.result in
    let small : n ≤ c.more.missing = omega (arith, c.min-count.ensures) in
    let some : n ≤ length held = omega (arith, c.min-count.ensures, ap length c.held.ensures.bytes) in
    let P : List ℕ → Type 0 = λ xs. IsBody c.args.form c.args.size (before.0 ++ take n xs) c.and-body.result in
    let kept = subst P c.held-in-more.ensures.bytes (c.and-body.ensures c.args.form c.args.size before.0 before.2) in
    rw c.drop_front.ensures
    record {
      so_far = (
        before.0 ++ take n held,
        piece_counted before.0 held n c.more.missing c.args.size small some before.1,
        kept,
        piece_taken before.0 held n _ _ (before.3 ∙ ap (prepend_known before.0) (sym c.in_ok-has_more.ensures.kept)),
      );
      place = c.in_ok-has_more.ensures.place ∙ c.more.invariant.place;
      aside = c.in_ok-has_more.ensures.aside ∙ c.more.invariant.aside;
      count = omega (arith, c.more.invariant.count, c.in_ok-has_more.ensures.cause.later);
    }

-- what was taken of the body is gone
pub returns-in_err-has_more-clause-lost : goal.returns-in_err-has_more-clause-lost
returns-in_err-has_more-clause-lost g c =
    let before = c.more.invariant.so_far in
    OnErr-always c.from_residual.result
    (before.0, before.3 ∙ ap (prepend_known before.0) (sym c.in_err-has_more.ensures.kept))
