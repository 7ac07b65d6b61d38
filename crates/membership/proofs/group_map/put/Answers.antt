use Rattle.membership.proofs.NameSetLemmas.{of_ok}
use Rattle.membership.proofs.RoomLemmas.{shown-insert}
use Rattle.membership.proofs.group_map.put.Goals as goal

-- with room the insertion succeeds
pub returns-clause-groups : goal.returns-clause-groups
returns-clause-groups c =
    shown-insert (λ g. g.members) c.args.items.now.entries c.insert.new.self.entries c.args.name c.args.group
    (of_ok c.insert.result (c.insert.ensures.succeeds c.requires) c.insert.ensures.updates).0

pub returns-clause-rooms : goal.returns-clause-rooms
returns-clause-rooms c =
    shown-insert (λ g. g.spare) c.args.items.now.entries c.insert.new.self.entries c.args.name c.args.group
    (of_ok c.insert.result (c.insert.ensures.succeeds c.requires) c.insert.ensures.updates).0

pub returns-clause-entries : goal.returns-clause-entries
returns-clause-entries c = of_ok c.insert.result (c.insert.ensures.succeeds c.requires) c.insert.ensures.entries
