-- What is replaced frees the files that nothing names any more.
use Rattle.std.proofs.Common.{◌∙◌, sym, ap}
use Rattle.sandboxes.specs.Files.{holding_of}
use Rattle.sandboxes.specs.Sandboxes.{released}
use Rattle.org_shelves.specs.ShelfMoves.{unnamed}
use Rattle.org_shelves.proofs.DroppedLemmas.{none_dropped, released_is_dropped}
use Rattle.org_shelves.proofs.shelf_moves.make_on_shelves.Goals as goal

pub returns-in-Some-clause-holding : goal.returns-in-Some-clause-holding
returns-in-Some-clause-holding c =
    c.drop_unnamed.ensures.holding
    ∙ ap (λ shelved. released (unnamed shelved c.into_sums.result) (holding_of c.args.files.now c.args.org.now)) c.change.ensures.shelved
    ∙ released_is_dropped c.args.one c.args.shelves.now.shelved c.in-Some.gone c.into_sums.result (holding_of c.args.files.now c.args.org.now) (sym c.change.ensures.gone ∙ c.in-Some.is) c.into_sums.ensures.members

pub returns-in_default-clause-holding : goal.returns-in_default-clause-holding
returns-in_default-clause-holding c = sym (none_dropped c.args.one c.args.shelves.now.shelved (holding_of c.args.files.now c.args.org.now) (sym c.change.ensures.gone ∙ c.in_default.is))
