use Rattle.membership.proofs.NameSetLemmas.{seen-remove}
use Rattle.membership.proofs.name_set.take.Goals as goal

pub returns-clause-names : goal.returns-clause-names
returns-clause-names c = seen-remove c.args.items.now.keys c.swap_remove.new.self.keys c.args.name.now c.swap_remove.ensures.updates.0
