use Rattle.std.proofs.Common.{sym, ◌∙◌}
use Rattle.cookbook_meta.proofs.KeyLemmas.{is_among-map}
use Rattle.policy_locks.proofs.stored.is_among.Goals as goal

pub returns : goal.returns
returns c = c.contains.ensures.value ∙ sym (is_among-map c.args.key.now c.args.keys.now)
