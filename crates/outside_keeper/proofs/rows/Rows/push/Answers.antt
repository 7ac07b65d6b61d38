-- A row behind the last keeps the order.
use Rattle.std.proofs.Common.{subst, sym, IsTrue}
use Rattle.outside_keeper.specs.Rows.{KeptRows, is_above}
use Rattle.outside_keeper.proofs.OrderLemmas.{order_pushed, map_pushed}
use Rattle.outside_keeper.proofs.rows.Rows.push.Goals as goal

pub invariant_of-self-2 : goal.invariant_of-self-2
invariant_of-self-2 c =
    let above = subst (λ (rows : KeptRows). IsTrue (is_above c.args.key rows)) (sym c.self.view_is) c.requires in
    order_pushed c.args.key c.args.body c.self.inside.items.items _ c.self.invariant above c.in_ok-push.ensures.items

pub returns-clause-ok : goal.returns-clause-ok
returns-clause-ok c =
    let above = subst (λ (rows : KeptRows). IsTrue (is_above c.args.key rows)) (sym c.self.view_is) c.requires in
    rw (← c.self.view_is) (map_pushed c.args.key c.args.body c.self.inside.items.items _ c.self.invariant above c.in_ok-push.ensures.items)
