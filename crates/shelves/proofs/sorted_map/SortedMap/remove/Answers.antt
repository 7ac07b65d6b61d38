-- An entry that is there is taken out.
use Rattle.std.proofs.Common.{sym, ap, subst, ◌∙◌}
use Rattle.std.specs.FinMap as finite
use Rattle.shelves.specs.Places.{IsInKeyOrder}
use Rattle.shelves.proofs.MapLemmas.{got, missed, taken_is, order_without, map_without, map_kept}
use Rattle.shelves.proofs.ShelfLaws.{without_key-remove}
use Rattle.shelves.proofs.PlaceLemmas.{held_in, gap_in}
use Rattle.shelves.proofs.sorted_map.SortedMap.remove.Goals as goal

pub invariant_of-self : goal.invariant_of-self
invariant_of-self g c =
    let R = g.K.Ord.cmp in
    let total = g.met.K.Ord.total in
    let is = taken_is R total (held_in R total c.args.key.now c.deref.ensures.value c.in-Ok.ensures) c.remove-value.ensures.items in
    subst (λ l. IsInKeyOrder R l) (sym is) (order_without R total c.args.key.now _ c.self.invariant)

pub returns-in-Ok-clause-order : goal.returns-in-Ok-clause-order
returns-in-Ok-clause-order g c =
    let R = g.K.Ord.cmp in
    let total = g.met.K.Ord.total in
    let is = taken_is R total (held_in R total c.args.key.now c.deref.ensures.value c.in-Ok.ensures) c.remove-value.ensures.items in
    subst (λ l. IsInKeyOrder R l) (sym is) (order_without R total c.args.key.now _ c.self.invariant)

pub returns-in-Ok-clause-map : goal.returns-in-Ok-clause-map
returns-in-Ok-clause-map g c =
    let R = g.K.Ord.cmp in
    let total = g.met.K.Ord.total in
    let is = taken_is R total (held_in R total c.args.key.now c.deref.ensures.value c.in-Ok.ensures) c.remove-value.ensures.items in
    rw (← c.self.view_is) (ap (λ l. finite.from_sorted {R = R} l) is ∙ map_without R total c.args.key.now _ c.self.invariant)

pub returns-in-Ok-clause-value : goal.returns-in-Ok-clause-value
returns-in-Ok-clause-value g c =
    let R = g.K.Ord.cmp in
    let total = g.met.K.Ord.total in
    rw (← c.self.view_is) (got R total _ c.args.key.now _ _ c.self.invariant (held_in R total c.args.key.now c.deref.ensures.value c.in-Ok.ensures) c.remove-value.ensures.value)

pub returns-in-Err-clause-map : goal.returns-in-Err-clause-map
returns-in-Err-clause-map g c =
    let R = g.K.Ord.cmp in
    let total = g.met.K.Ord.total in
    rw (← c.self.view_is) (map_kept R total c.self.invariant (gap_in R total c.args.key.now c.deref.ensures.value c.in-Err.ensures))

pub returns-in-Err-clause-value : goal.returns-in-Err-clause-value
returns-in-Err-clause-value g c =
    let R = g.K.Ord.cmp in
    let total = g.met.K.Ord.total in
    rw (← c.self.view_is) (missed R total _ c.args.key.now _ c.self.invariant (gap_in R total c.args.key.now c.deref.ensures.value c.in-Err.ensures))

-- ---- where only equal keys tie

pub returns-in-Ok-clause-removed : goal.returns-in-Ok-clause-removed
returns-in-Ok-clause-removed g c same =
    let R = g.K.Ord.cmp in
    let total = g.met.K.Ord.total in
    let is = taken_is R total (held_in R total c.args.key.now c.deref.ensures.value c.in-Ok.ensures) c.remove-value.ensures.items in
    rw (← c.self.view_is) (ap (λ l. finite.from_sorted {R = R} l) is ∙ map_without R total c.args.key.now _ c.self.invariant ∙ without_key-remove total same _ c.args.key.now)

pub returns-in-Err-clause-removed : goal.returns-in-Err-clause-removed
returns-in-Err-clause-removed g c same =
    let R = g.K.Ord.cmp in
    let total = g.met.K.Ord.total in
    rw (← c.self.view_is) (map_kept R total c.self.invariant (gap_in R total c.args.key.now c.deref.ensures.value c.in-Err.ensures) ∙ without_key-remove total same _ c.args.key.now)
