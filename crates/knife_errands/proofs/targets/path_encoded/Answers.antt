use Rattle.std.proofs.Common.{◌∙◌}
use Rattle.knife_errands.proofs.TargetLemmas.{target_is}
use Rattle.knife_errands.proofs.targets.path_encoded.Goals as goal

pub returns : goal.returns
returns c = c.utf8_percent_encode.ensures.text ∙ target_is c.args.path.now
