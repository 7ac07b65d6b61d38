use Rattle.std.proofs.Common.{rules, ◌∙◌, ap, sym}
use mathlib.Core.Option.{none}
use Rattle.atomic_table.specs.Table.{step}
use Rattle.turn_book.specs.Views.{is_live, out, learned}
use Rattle.turn_book.proofs.StepLemmas.{joins, learning}
use Rattle.turn_book.proofs.SeatLemmas.{learn_tells}
use Rattle.turn_book.proofs.CallerLemmas.{idle_of, both_settled, both_known, both_begin}
use Rattle.turn_book.proofs.book.TurnBook.join.Goals as goal

pub join_seat-requires : goal.join_seat-requires
join_seat-requires g c =
    let into = idle_of c.into.inside.seat.table_id c.args.into.now c.into.inside.seat.me c.into.invariant c.into.view_is c.requires.at_rest.0 in
    let from = idle_of c.from.inside.seat.table_id c.args.from c.from.inside.seat.me c.from.invariant c.from.view_is c.requires.at_rest.1 in (
      ap (λ k. k.book) c.into.view_is ∙ c.requires.own.0 ∙ sym c.self.view_is,
      ap (λ k. k.book) c.from.view_is ∙ c.requires.own.1 ∙ sym c.self.view_is,
      from.hand_is,
      search rules,
      joins g.S.Stands.stands g.S.Stands.opened c.self.inside.table.shared.key _ _ _ _ (ap is_live into.stage_is) into.has_part from.no_ticket (ap out from.stage_is),
    )

pub load-requires : goal.load-requires
load-requires g c =
    let into = idle_of c.into.inside.seat.table_id c.args.into.now c.into.inside.seat.me c.into.invariant c.into.view_is c.requires.at_rest.0 in (
      c.join_seat.ensures.0 ∙ ap (λ k. k.book) c.into.view_is ∙ c.requires.own.0 ∙ sym c.self.view_is,
      search rules,
      learning g.S.Stands.stands g.S.Stands.opened c.self.inside.table.shared.key _ _ _ (ap (λ m. m.0.stage) c.join_seat.ensures.2 ∙ into.stage_is),
    )

pub invariant_of-into : goal.invariant_of-into
invariant_of-into g c =
    let into = idle_of c.into.inside.seat.table_id c.args.into.now c.into.inside.seat.me c.into.invariant c.into.view_is c.requires.at_rest.0 in
    both_settled c.into.inside.seat.me c.from.inside.seat.me c.load.new.seat.me into (c.load.ensures.2.0 ∙ ap (λ m. (learned m.0, m.1)) c.join_seat.ensures.2)

pub returns-clause-both : goal.returns-clause-both
returns-clause-both g c = both_known c.into.inside.seat.table_id c.from.inside.seat.table_id c.load.new.seat.table_id c.args.into.now c.args.from c.into.inside.seat.me c.from.inside.seat.me c.load.new.seat.me (c.load.ensures.0 ∙ c.join_seat.ensures.0) c.into.view_is c.from.view_is
    (c.load.ensures.2.0 ∙ ap (λ m. (learned m.0, m.1)) c.join_seat.ensures.2)

pub returns-clause-forgets_nothing : goal.returns-clause-forgets_nothing
returns-clause-forgets_nothing g c = both_begin c.into.inside.seat.table_id c.from.inside.seat.table_id c.args.into.now c.args.from _ c.into.inside.seat.me c.from.inside.seat.me c.into.view_is c.from.view_is
    (both_known c.into.inside.seat.table_id c.from.inside.seat.table_id c.load.new.seat.table_id c.args.into.now c.args.from c.into.inside.seat.me c.from.inside.seat.me c.load.new.seat.me (c.load.ensures.0 ∙ c.join_seat.ensures.0) c.into.view_is c.from.view_is
    (c.load.ensures.2.0 ∙ ap (λ m. (learned m.0, m.1)) c.join_seat.ensures.2))
    (learn_tells g.S.Stands.stands (step c.self.inside.table.shared.table_id.slots 0 0 0 none) c.load.result c.into.inside.seat.me.0 c.from.inside.seat.me.0 c.into.inside.seat.me.1 c.join_seat.new.seat.me c.load.new.seat.me c.load.ensures.2 c.join_seat.ensures.2)
