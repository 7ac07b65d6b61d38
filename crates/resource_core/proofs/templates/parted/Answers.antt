use Rattle.resource_core.proofs.TemplateLemmas.{parted-split}
use Rattle.resource_core.proofs.templates.parted.Goals as goal

pub returns : goal.returns
returns c = parted-split c.args.text.now c.split_once.result c.split_once.ensures.cases
