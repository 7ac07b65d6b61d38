-- The last of the rows has the key that counts.
use Rattle.std.proofs.Common.{is_lt, ap, sym, ◌∙◌, option_copied}
use Rattle.outside_keeper.specs.Rows.{is_above_row}
use Rattle.outside_keeper.proofs.OrderLemmas.{above_is}
use Rattle.outside_keeper.proofs.rows.Rows.is_above.Goals as goal

pub returns-in-Some : goal.returns-in-Some
returns-in-Some c =
    rw (← c.self.view_is)
    (c.is_lt.ensures
    ∙ ap is_lt c.cmp.ensures
    ∙ ap (λ r. is_above_row c.args.key.now (option_copied r)) (sym c.in-Some.is)
    ∙ above_is c.args.key.now c.self.inside.items.items c.last.result c.self.invariant (rw (← c.deref.ensures.value) c.last.ensures.value))

pub returns-in-None : goal.returns-in-None
returns-in-None c =
    rw (← c.self.view_is)
    (ap (λ r. is_above_row c.args.key.now (option_copied r)) (sym c.in-None.is)
    ∙ above_is c.args.key.now c.self.inside.items.items c.last.result c.self.invariant (rw (← c.deref.ensures.value) c.last.ensures.value))
