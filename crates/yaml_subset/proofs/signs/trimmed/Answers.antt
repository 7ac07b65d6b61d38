use Rattle.yaml_subset.proofs.SignsLemmas.{take_ended}
use Rattle.yaml_subset.proofs.signs.trimmed.Goals as goal

pub returns : goal.returns
returns c = take_ended _ c.args.text.now c.trimmed_end.ensures.value
