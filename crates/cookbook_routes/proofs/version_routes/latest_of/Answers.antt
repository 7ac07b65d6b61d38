-- A cookbook that isn't there has no greatest version.
use Rattle.std.proofs.Common.{ap, ◌∙◌}
use Rattle.std.specs.Option.{option_copied}
use Rattle.cookbook_routes.proofs.LatestLemmas.{latest_seen}
use Rattle.cookbook_routes.proofs.version_routes.latest_of.Goals as goal

pub returns-in_err-shelf : goal.returns-in_err-shelf
returns-in_err-shelf c = ap option_copied c.from_residual.ensures ∙ latest_seen c.cookbooks.ensures c.args.name.now c.in_err-shelf.ensures.shelf
