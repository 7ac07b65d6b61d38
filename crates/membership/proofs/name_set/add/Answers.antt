use Rattle.membership.proofs.NameSetLemmas.{seen-insert}
use Rattle.membership.proofs.name_set.add.Goals as goal

pub returns : goal.returns
returns c = seen-insert c.args.items.now.keys c.insert.new.self.keys c.args.name c.in_ok-insert.ensures.updates.0
