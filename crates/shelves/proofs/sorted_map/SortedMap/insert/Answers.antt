-- An entry that is there gets another value, and a new one goes in at its place.
use Rattle.std.proofs.Common.{◌≤◌, ◌-◌, Some, vec_capacity, vec_len, sym, ap, subst, ◌∙◌, arith}
use Rattle.std.specs.FinMap as finite
use Rattle.shelves.specs.Places.{IsInKeyOrder}
use Rattle.shelves.proofs.MapLemmas.{got, missed, written_is, added_is, order_put, map_put}
use Rattle.shelves.proofs.PlaceLemmas.{held_in, gap_in}
use Rattle.shelves.proofs.sorted_map.SortedMap.insert.Goals as goal

-- ---- the key is there

pub invariant_of-self : goal.invariant_of-self
invariant_of-self g c =
    let R = g.K.Ord.cmp in
    let total = g.met.K.Ord.total in
    let here = held_in R total c.args.key c.deref.ensures.value c.in-Ok.ensures in
    let is = written_is R total _ c.args.key _ _ _ _ here c.index_mut.ensures.value c.replace.ensures.after in
    subst (λ l. IsInKeyOrder R l) (sym is) (order_put R total c.args.key c.args.value _ c.self.invariant)

pub returns-in-Ok-clause-order : goal.returns-in-Ok-clause-order
returns-in-Ok-clause-order g c =
    let R = g.K.Ord.cmp in
    let total = g.met.K.Ord.total in
    let here = held_in R total c.args.key c.deref.ensures.value c.in-Ok.ensures in
    let is = written_is R total _ c.args.key _ _ _ _ here c.index_mut.ensures.value c.replace.ensures.after in
    subst (λ l. IsInKeyOrder R l) (sym is) (order_put R total c.args.key c.args.value _ c.self.invariant)

pub returns-in-Ok-clause-map : goal.returns-in-Ok-clause-map
returns-in-Ok-clause-map g c =
    let R = g.K.Ord.cmp in
    let total = g.met.K.Ord.total in
    let here = held_in R total c.args.key c.deref.ensures.value c.in-Ok.ensures in
    let is = written_is R total _ c.args.key _ _ _ _ here c.index_mut.ensures.value c.replace.ensures.after in
    rw (← c.self.view_is) (ap (λ l. finite.from_sorted {R = R} l) is ∙ map_put R total c.args.key c.args.value _ c.self.invariant)

pub returns-in-Ok-clause-value : goal.returns-in-Ok-clause-value
returns-in-Ok-clause-value g c =
    let R = g.K.Ord.cmp in
    let total = g.met.K.Ord.total in
    let here = held_in R total c.args.key c.deref.ensures.value c.in-Ok.ensures in
    rw (← c.self.view_is) (ap Some c.replace.ensures.value ∙ got R total _ c.args.key _ _ c.self.invariant here c.index_mut.ensures.value)

-- ---- the key is new

pub invariant_of-self-in-Err : goal.invariant_of-self-in-Err
invariant_of-self-in-Err g c =
    let R = g.K.Ord.cmp in
    let total = g.met.K.Ord.total in
    let room : 1 ≤ vec_capacity c.self.inside.items - vec_len c.self.inside.items = rw (← c.self.view_is) at c.requires in
    let gap = gap_in R total c.args.key c.deref.ensures.value c.in-Err.ensures in
    let is = added_is R total c.args.value _ gap c.insert.ensures.items (c.insert.ensures.succeeds (omega (arith, room))) in
    subst (λ l. IsInKeyOrder R l) (sym is) (order_put R total c.args.key c.args.value _ c.self.invariant)

pub returns-in-Err-clause-order : goal.returns-in-Err-clause-order
returns-in-Err-clause-order g c =
    let R = g.K.Ord.cmp in
    let total = g.met.K.Ord.total in
    let room : 1 ≤ vec_capacity c.self.inside.items - vec_len c.self.inside.items = rw (← c.self.view_is) at c.requires in
    let gap = gap_in R total c.args.key c.deref.ensures.value c.in-Err.ensures in
    let is = added_is R total c.args.value _ gap c.insert.ensures.items (c.insert.ensures.succeeds (omega (arith, room))) in
    subst (λ l. IsInKeyOrder R l) (sym is) (order_put R total c.args.key c.args.value _ c.self.invariant)

pub returns-in-Err-clause-map : goal.returns-in-Err-clause-map
returns-in-Err-clause-map g c =
    let R = g.K.Ord.cmp in
    let total = g.met.K.Ord.total in
    let room : 1 ≤ vec_capacity c.self.inside.items - vec_len c.self.inside.items = rw (← c.self.view_is) at c.requires in
    let gap = gap_in R total c.args.key c.deref.ensures.value c.in-Err.ensures in
    let is = added_is R total c.args.value _ gap c.insert.ensures.items (c.insert.ensures.succeeds (omega (arith, room))) in
    rw (← c.self.view_is) (ap (λ l. finite.from_sorted {R = R} l) is ∙ map_put R total c.args.key c.args.value _ c.self.invariant)

pub returns-in-Err-clause-value : goal.returns-in-Err-clause-value
returns-in-Err-clause-value g c =
    let R = g.K.Ord.cmp in
    let total = g.met.K.Ord.total in
    rw (← c.self.view_is) (missed R total _ c.args.key _ c.self.invariant (gap_in R total c.args.key c.deref.ensures.value c.in-Err.ensures))
