-- What is kept of a body is kept with a piece more, in whatever form it is kept.
use Rattle.std.proofs.Common.{◌++◌, subst}
use Rattle.http_wire.specs.Bodies.{IsBody}
use Rattle.http_wire.proofs.bodies.KeptBody.and.Goals as goal

pub returns-in-Whole : goal.returns-in-Whole
returns-in-Whole c form size bytes body =
    let (is, within, kept) = subst (IsBody form size bytes) c.in-Whole.is body in
    subst (λ front. IsBody form size (front ++ c.args.piece.now) c.extended.result) is (c.extended.ensures form size within kept)
