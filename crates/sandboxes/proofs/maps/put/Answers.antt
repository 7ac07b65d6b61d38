use Rattle.sandboxes.proofs.MapLemmas.{seen-insert, of_ok}
use Rattle.sandboxes.proofs.maps.put.Goals as goal

-- with room the insertion succeeds
pub returns-clause-entries : goal.returns-clause-entries
returns-clause-entries g c =
    seen-insert c.args.map.now.entries c.insert.new.self.entries c.args.key c.args.value
    (of_ok c.insert.result (c.insert.ensures.succeeds c.requires) c.insert.ensures.updates).0
