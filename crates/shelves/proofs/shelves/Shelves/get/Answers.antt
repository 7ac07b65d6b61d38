-- Where there is no shelf, there is no value.
use Rattle.std.proofs.Common.{sym, ap, ◌∙◌, option_copied, unwrap_or}
use Rattle.std.specs.FinMap as finite
use Rattle.shelves.proofs.shelves.Shelves.get.Goals as goal

pub returns-in_err-shelf : goal.returns-in_err-shelf
returns-in_err-shelf g c =
    ap option_copied c.from_residual.ensures
    ∙ sym (finite.get-empty g.K.Ord.cmp c.args.key.now)
    ∙ ap (λ m. finite.get (unwrap_or m finite.empty) c.args.key.now) c.in_err-shelf.ensures.shelf
