use Rattle.membership.proofs.RoomLemmas.{shown-remove}
use Rattle.membership.proofs.group_map.take.Goals as goal

pub returns-clause-groups : goal.returns-clause-groups
returns-clause-groups c = shown-remove (λ g. g.members) c.args.items.now.entries c.swap_remove.new.self.entries c.args.name.now c.swap_remove.ensures.updates.0

pub returns-clause-rooms : goal.returns-clause-rooms
returns-clause-rooms c = shown-remove (λ g. g.spare) c.args.items.now.entries c.swap_remove.new.self.entries c.args.name.now c.swap_remove.ensures.updates.0
