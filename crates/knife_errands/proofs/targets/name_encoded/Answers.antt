use Rattle.std.proofs.Common.{◌∙◌}
use Rattle.knife_errands.proofs.TargetLemmas.{name_is}
use Rattle.knife_errands.proofs.targets.name_encoded.Goals as goal

pub returns : goal.returns
returns c = c.utf8_percent_encode.ensures.text ∙ name_is c.args.name.now
