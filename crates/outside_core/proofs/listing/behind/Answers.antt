use Rattle.outside_core.proofs.FrontLemmas.{behind_front-strip}
use Rattle.outside_core.proofs.listing.behind.Goals as goal

pub returns : goal.returns
returns c = behind_front-strip c.args.front.now c.args.text.now c.strip_prefix.result c.strip_prefix.ensures.cases
