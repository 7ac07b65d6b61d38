-- The place is free, and the first of the free ones.
use Rattle.std.proofs.Common.{◌-◌, set, subst, sym}
use Rattle.std.specs.Prelude.{vec_capacity}
use Rattle.search_index.specs.Places.{IsStored, IsTaken}
use Rattle.search_index.proofs.StoreLemmas.{frees, stored_remove, taken_at}
use Rattle.search_index.proofs.places.Places.remove.Goals as goal

pub invariant_of-self : goal.invariant_of-self
invariant_of-self c =
    let old = taken_at c.self.inside.items.items c.args.place (subst (λ n. IsTaken n c.args.place) (sym c.self.view_is) c.requires) in
    subst (λ z. IsStored (set c.self.inside.items.items c.args.place c.freed.result) (c.self.inside.taken - 1) z) (sym c.at-self-inside.ensures)
    (stored_remove c.self.inside.items.items c.self.inside.taken c.self.inside.free c.args.place old.0 c.freed.result c.self.invariant old.1 old.2 c.freed.ensures.object c.freed.ensures.next)

pub returns-clause-updates : goal.returns-clause-updates
returns-clause-updates c =
    let old = taken_at c.self.inside.items.items c.args.place (subst (λ n. IsTaken n c.args.place) (sym c.self.view_is) c.requires) in
    rw (← c.self.view_is) ((frees c.self.inside.items.items (vec_capacity c.self.inside.items) c.args.place old.0 c.freed.result old.1 old.2 c.freed.ensures.object).updates)

pub returns-clause-count : goal.returns-clause-count
returns-clause-count c =
    let old = taken_at c.self.inside.items.items c.args.place (subst (λ n. IsTaken n c.args.place) (sym c.self.view_is) c.requires) in
    rw (← c.self.view_is) ((frees c.self.inside.items.items (vec_capacity c.self.inside.items) c.args.place old.0 c.freed.result old.1 old.2 c.freed.ensures.object).count)
