use Rattle.std.proofs.Common.{◌∙◌, ap}
use Rattle.membership.specs.Leading.{listing}
use Rattle.membership.proofs.KeepingLemmas.{Tells-kept}
use Rattle.membership.proofs.group_map.GroupMap.put.Goals as goal

-- a group that lists what the one in its place did
pub work_out_unless-requires-clause-known : goal.work_out_unless-requires-clause-known
work_out_unless-requires-clause-known c = λ alike.
    Tells-kept c.self.inside.items.entries c.put.new.items.entries c.self.inside.cells.items (ap listing c.put.ensures.entries ∙ c.lists_alike-alike.ensures alike) c.self.invariant.tells
