use Rattle.std.proofs.Common.{ap, ◌∙◌}
use Rattle.membership.specs.Rooms.{KeptGroups}
use Rattle.membership.proofs.RoomLemmas.{has_found}
use Rattle.membership.proofs.group_map.GroupMap.has.Goals as goal

pub returns : goal.returns
returns c = c.contains_key.ensures ∙ has_found c.self.inside.items.entries c.args.self.now.groups c.args.name.now (ap (λ (kept : KeptGroups). kept.groups) c.self.view_is)
