use Rattle.std.proofs.Common.{is_some, ap, ◌∙◌}
use Rattle.yaml_subset.proofs.PairsLemmas.{lookup_is}
use Rattle.yaml_subset.proofs.pairs.is_mapped.Goals as goal

pub returns : goal.returns
returns c = c.contains_key.ensures ∙ ap is_some (lookup_is c.args.key.now c.args.map.now.entries)
