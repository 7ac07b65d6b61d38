use Rattle.std.proofs.Common.{rules, ◌∙◌, ap, sym, subst, Some, None, ◌∷◌}
use Rattle.atomic_table.specs.Table.{rest}
use Rattle.turn_book.specs.Seats.{AddsTo}
use Rattle.turn_book.proofs.SeatLemmas.{advances_as, gave_tells}
use Rattle.turn_book.proofs.book.TurnBook.give_value.Goals as goal

pub exchange-requires : goal.exchange-requires
exchange-requires g c = (c.requires.own ∙ sym c.self.view_is, (None, c.requires.out.hand_is ∙ ap (λ l. (0, None) ∷ rest l) (sym c.requires.out.hand_is)))

pub fetch_add-done-requires : goal.fetch_add-done-requires
fetch_add-done-requires g c = let put = c.exchange.ensures.3 in let out = c.requires.out in (
  c.exchange.ensures.0 ∙ c.requires.own ∙ sym c.self.view_is,
  search rules,
  advances_as g.S.Stands.stands g.S.Stands.opened c.self.inside.table.shared.key _ _ _ g.M.Picks.entry c.args.value (ap (λ m. m.0.stage) put ∙ out.stage_is) (ap (λ m. m.1) put ∙ ap (λ l. (0, Some c.args.value) ∷ rest l) out.hand_is)
      (subst (λ v. AddsTo g.S.Stands.stands v.opened v.seen g.M.Picks.entry c.args.value) (sym (ap (λ m. m.0) put)) c.requires.adds),
)

pub returns-clause-gave : goal.returns-clause-gave
returns-clause-gave g c = gave_tells g.M.Picks.entry _ c.args.seat.now.me.0 (Some c.args.value) _ _ _ (c.exchange.ensures.3 ∙ ap (λ l. (c.args.seat.now.me.0, (0, Some c.args.value) ∷ rest l)) c.requires.out.hand_is) c.fetch_add-done.ensures.2
