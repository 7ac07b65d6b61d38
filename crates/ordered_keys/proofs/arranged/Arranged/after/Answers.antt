-- There are fewer numbers than fit a word.
use Rattle.std.proofs.Common.{IsSome, arith, subst, sym}
use Rattle.ordered_keys.specs.Arranged.{Arrangement, item_of}
use Rattle.ordered_keys.proofs.ItemLemmas.{there}
use Rattle.ordered_keys.proofs.arranged.Arranged.after.Goals as goal

pub overflow_add-result : goal.overflow_add-result
overflow_add-result g c =
    let within = there c.self.inside.items.items c.args.number (subst (λ (a : Arrangement g.row.T.Denot). IsSome (item_of a c.args.number)) (sym c.self.view_is) c.requires) in
    let ok = c.self.inside.items.ok in
    let small = c.self.inside.items.small in
    omega arith
