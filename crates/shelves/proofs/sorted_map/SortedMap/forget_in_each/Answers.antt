-- The keys stay, and with them their order.
use Rattle.std.proofs.Common.{map, sym, ap, subst, ◌∙◌, arith}
use Rattle.std.specs.FinMap as finite
use Rattle.shelves.specs.Places.{IsInKeyOrder}
use Rattle.shelves.proofs.MapLemmas.{entries_of}
use Rattle.shelves.proofs.RoomLemmas.{written_over}
use Rattle.shelves.proofs.ValueLemmas.{order_seen}
use Rattle.shelves.proofs.sorted_map.SortedMap.forget_in_each.Goals as goal

pub invariant_of-self : goal.invariant_of-self
invariant_of-self g c =
    let f : g.row.K.Denot × g.row.V.Denot → g.row.K.Denot × g.row.V.Denot = λ e. (e.0, g.V.Forget.without c.args.name.now e.1) in
    let items = c.self.inside.items.items in
    let all = written_over c.self.inside.items.len items c.forget_in_each.new.entries (omega (arith, c.forget_in_each.auto.entries, c.deref_mut.ensures.len)) in
    let is = all ∙ c.forget_in_each.ensures ∙ ap (map f) c.deref_mut.ensures.value in
    subst (λ l. IsInKeyOrder g.K.Ord.cmp l) (sym is) (order_seen g.K.Ord.cmp (g.V.Forget.without c.args.name.now) items c.self.invariant)

pub returns-clause-map : goal.returns-clause-map
returns-clause-map g c =
    let R = g.K.Ord.cmp in
    let f : g.row.K.Denot × g.row.V.Denot → g.row.K.Denot × g.row.V.Denot = λ e. (e.0, g.V.Forget.without c.args.name.now e.1) in
    let items = c.self.inside.items.items in
    let all = written_over c.self.inside.items.len items c.forget_in_each.new.entries (omega (arith, c.forget_in_each.auto.entries, c.deref_mut.ensures.len)) in
    let is = all ∙ c.forget_in_each.ensures ∙ ap (map f) c.deref_mut.ensures.value in
    rw (← c.self.view_is) (ap (λ l. finite.from_sorted {R = R} l) (is ∙ ap (map f) (sym (entries_of R g.met.K.Ord.total items c.self.invariant))))
