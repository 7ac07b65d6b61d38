use Rattle.resource_core.proofs.TemplateLemmas.{behind-strip}
use Rattle.resource_core.proofs.templates.behind.Goals as goal

pub returns : goal.returns
returns c = behind-strip c.args.front.now c.args.text.now c.strip_prefix.result c.strip_prefix.ensures.cases
