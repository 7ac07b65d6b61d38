use Rattle.std.proofs.Common.{◌∙◌, ap}
use Rattle.membership.specs.MapValues.{map_values}
use Rattle.access_lists.specs.Acls.{each_entry, without_group}
use Rattle.object_store.specs.Objects.{KeptLists}
use Rattle.object_store.proofs.ListsLemmas.{seen-without_group}
use Rattle.object_store.proofs.lists.Lists.take_group.Goals as goal

-- the group goes from every base, so from every list
pub returns-clause-lists : goal.returns-clause-lists
returns-clause-lists c =
    seen-without_group c.args.name.now c.self.inside.items.entries c.self.inside.bases c.take_group_from_each.new.bases c.self.invariant c.take_group_from_each.ensures
    ∙ ap (λ (kept : KeptLists). map_values (each_entry (without_group c.args.name.now)) kept.lists) c.self.view_is
