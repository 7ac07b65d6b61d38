use Rattle.std.proofs.Common.{refl, sym, subst}
use Rattle.membership.specs.Rooms.{Entries, groups_seen}
use Rattle.membership.proofs.CopyingLemmas.{Copying, Copying-none, Copying-more, Copying-all}
use Rattle.membership.proofs.group_map.copy_items.Goals as goal

-- nothing is copied yet
pub loop-name-init : goal.loop-name-init
loop-name-init c =
    subst (λ (left : Entries). Copying c.args.items.now.entries (groups_seen c.in_ok-made.made.entries) left) (sym c.into_iter-name-iterator.ensures.into_iter_gives.0)
    (Copying-none c.args.items.now.entries c.in_ok-made.made.entries c.in_ok-made.ensures.empty c.len.ensures.unique)

-- the group of this turn is copied
pub loop-name-preserved : goal.loop-name-preserved
loop-name-preserved c =
    let here = subst (λ (left : Entries). Copying c.args.items.now.entries (groups_seen c.loop-name.made.entries) left) c.in-Some.ensures.steps c.loop-name.invariant in
    Copying-more c.args.items.now.entries (groups_seen c.loop-name.made.entries) (groups_seen c.add_copy.new.made.entries) c.in-Some.name.now c.in-Some.group.now c.next.new.self
    c.in-Some.name.now c.in-Some.group.now.members here refl refl c.in_ok-add_copy.ensures

pub returns : goal.returns
returns c = Copying-all c.args.items.now.entries c.loop-name.name-iterator (groups_seen c.loop-name.made.entries) c.loop-name.invariant c.in-None.ensures.steps.0
