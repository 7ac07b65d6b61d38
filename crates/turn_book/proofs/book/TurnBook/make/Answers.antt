use Rattle.std.proofs.Common.{rules, ◌∙◌, ap, sym, subst, Some, [], ◌∷◌}
use Rattle.atomic_table.specs.Table.{rest}
use Rattle.turn_book.specs.declared.views.Stage.TheVariants.{Empty, Filling}
use Rattle.turn_book.specs.Views.{first_view, filling}
use Rattle.turn_book.proofs.StepLemmas.{takes_empty, begins}
use Rattle.turn_book.proofs.SeatLemmas.{first_seat}
use Rattle.turn_book.proofs.CallerLemmas.{first_settled, first_known}
use Rattle.turn_book.proofs.book.TurnBook.make.Goals as goal

pub load-requires : goal.load-requires
load-requires g c = let made = c.in-Ok.ensures in (search rules, search rules, takes_empty g.S.Stands.stands g.S.Stands.opened c.in-Ok.made.0.shared.key _ _ _ (ap (λ m. m.0) made.4 ∙ ap (λ k. first_view (g.S.Stands.opened k) Empty) (sym made.5)))

pub load-requires-2 : goal.load-requires-2
load-requires-2 g c = let made = c.in-Ok.ensures in let took = c.load.ensures.2 in let put = c.exchange.ensures.3 in (
  search rules,
  search rules,
  begins g.S.Stands.stands g.S.Stands.opened c.in-Ok.made.0.shared.key _ _ _ c.args.value (ap (λ m. m.0) put ∙ ap (λ m. m.0) took ∙ ap (λ m. filling m.0) made.4 ∙ ap (λ k. first_view (g.S.Stands.opened k) Filling) (sym made.5))
      (ap (λ m. m.1) put ∙ ap (λ m. (0, Some c.args.value) ∷ rest m.1) took ∙ ap (λ m. (0, Some c.args.value) ∷ m.1) made.4) (subst (λ k. g.S.Stands.stands (g.S.Stands.opened k) [] c.args.value) (sym made.5) c.requires.stands),
)

pub invariant_of-result-2 : goal.invariant_of-result-2
invariant_of-result-2 g c = first_settled (g.S.Stands.opened c.args.value) c.load-2.new.seat.me
    (first_seat (g.S.Stands.opened c.args.value) c.args.value c.in-Ok.made.1.me c.load.new.seat.me c.exchange.new.seat.me c.load-2.new.seat.me c.in-Ok.ensures.4 c.load.ensures.2 c.exchange.ensures.3 c.load-2.ensures.2)

pub returns-clause-made : goal.returns-clause-made
returns-clause-made g c = first_known c.in-Ok.made.0.shared.table_id c.load-2.new.seat.table_id (g.S.Stands.opened c.args.value) c.load-2.new.seat.me (c.load-2.ensures.0 ∙ c.exchange.ensures.0 ∙ c.load.ensures.0 ∙ c.in-Ok.ensures.2)
    (first_seat (g.S.Stands.opened c.args.value) c.args.value c.in-Ok.made.1.me c.load.new.seat.me c.exchange.new.seat.me c.load-2.new.seat.me c.in-Ok.ensures.4 c.load.ensures.2 c.exchange.ensures.3 c.load-2.ensures.2)
