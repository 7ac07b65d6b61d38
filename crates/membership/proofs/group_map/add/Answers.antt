use Rattle.membership.proofs.RoomLemmas.{shown-insert}
use Rattle.membership.proofs.group_map.add.Goals as goal

pub returns : goal.returns
returns c = shown-insert (λ g. g.members) c.args.items.now.entries c.insert.new.self.entries c.args.name c.args.group c.in_ok-insert.ensures.updates.0
