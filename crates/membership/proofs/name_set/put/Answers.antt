use Rattle.membership.proofs.NameSetLemmas.{of_ok, seen-insert}
use Rattle.membership.proofs.name_set.put.Goals as goal

-- with room the insertion succeeds
pub returns-clause-names : goal.returns-clause-names
returns-clause-names c =
    seen-insert c.args.items.now.keys c.insert.new.self.keys c.args.name (of_ok c.insert.result (c.insert.ensures.succeeds c.requires) c.insert.ensures.updates).0
