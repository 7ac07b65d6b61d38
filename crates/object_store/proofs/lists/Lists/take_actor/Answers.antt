use Rattle.std.proofs.Common.{◌∙◌, sym, ap, subst}
use Rattle.membership.specs.MapValues.{map_values}
use Rattle.access_lists.specs.Acls.{each_entry, without_actor}
use Rattle.object_store.specs.Bases.{IsKept, seen}
use Rattle.object_store.specs.Objects.{KeptLists}
use Rattle.object_store.proofs.ListsLemmas.{Entries, kept-changed, seen-without_actor, uses-without_creator, without_creator}
use Rattle.object_store.proofs.lists.Lists.take_actor.Goals as goal

-- each base is used as before
pub invariant_of-self : goal.invariant_of-self
invariant_of-self c =
    let name = c.args.name.now in
    let entries = c.self.inside.items.entries in
    subst (λ (left : Entries). IsKept left c.take_actor_from_each.new.bases) (sym c.forget_creator.ensures.entries)
    (kept-changed (each_entry (without_actor name)) entries (without_creator name entries) c.self.inside.bases c.take_actor_from_each.new.bases c.self.invariant c.take_actor_from_each.ensures.changes (λ n. uses-without_creator name n entries))

-- the actor goes from every base, and as who created, so from every list
pub returns-clause-lists : goal.returns-clause-lists
returns-clause-lists c =
    let name = c.args.name.now in
    ap (seen c.take_actor_from_each.new.bases) c.forget_creator.ensures.entries
    ∙ seen-without_actor name c.self.inside.items.entries c.self.inside.bases c.take_actor_from_each.new.bases c.self.invariant c.take_actor_from_each.ensures.rising c.take_actor_from_each.ensures.changes
    ∙ ap (λ (kept : KeptLists). map_values (each_entry (without_actor name)) kept.lists) c.self.view_is
