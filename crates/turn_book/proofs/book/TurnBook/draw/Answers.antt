use Rattle.std.proofs.Common.{rules, arith, ◌∙◌, ap, sym, subst, refl, ◌+◌, ◌<◌}
use Rattle.turn_book.specs.Views.{is_live, out}
use Rattle.turn_book.proofs.StepLemmas.{reads, draws}
use Rattle.turn_book.proofs.SeatLemmas.{read_end, read_more, drew_tells, drew_none}
use Rattle.turn_book.proofs.book.TurnBook.draw.Goals as goal

pub load-drawn-requires : goal.load-drawn-requires
load-drawn-requires g c = (c.loop.invariant.0 ∙ c.requires.own ∙ sym c.self.view_is, search rules, reads g.S.Stands.stands g.S.Stands.opened c.self.inside.table.shared.key _ _ _ (ap (λ m. is_live m.0.stage) c.loop.invariant.1 ∙ ap is_live c.requires.idle.stage_is))

pub returns-then-drawn-last-clause-drew : goal.returns-then-drawn-last-clause-drew
returns-then-drawn-last-clause-drew g c = read_end c.args.seat.now.me c.loop.seat.me c.load-drawn.new.seat.me c.load-drawn.result c.if-drawn-last.true c.loop.invariant.1 c.load-drawn.ensures.2

pub compare_exchange-found-requires : goal.compare_exchange-found-requires
compare_exchange-found-requires g c = let idle = c.requires.idle in let ne = c.if-drawn-last.false in let r = c.load-drawn.type_inv in
    let same = read_more c.args.seat.now.me c.loop.seat.me c.load-drawn.new.seat.me c.load-drawn.result ne c.loop.invariant.1 c.load-drawn.ensures.2 in (
      c.load-drawn.ensures.0 ∙ c.loop.invariant.0 ∙ c.requires.own ∙ sym c.self.view_is,
      search rules,
      draws g.S.Stands.stands g.S.Stands.opened c.self.inside.table.shared.key _ _ _ c.load-drawn.result _ (ap (λ m. is_live m.0.stage) same ∙ ap is_live idle.stage_is) (ap (λ m. out m.0.stage) same ∙ ap out idle.stage_is) (ap (λ m. m.0.ticket) same ∙ idle.no_ticket)
          (subst (λ m. 0 < m.0.parts) (sym same) idle.has_part) refl (omega arith),
    )

pub returns-then-found-drawn-clause-drew : goal.returns-then-found-drawn-clause-drew
returns-then-found-drawn-clause-drew g c = drew_tells g.S.Stands.stands c.self.inside.table.shared.table_id.slots c.compare_exchange-found.result c.load-drawn.result (c.load-drawn.result + 1) c.args.seat.now.me c.load-drawn.new.seat.me c.compare_exchange-found.new.seat.me c.if-found-drawn.true
    (read_more c.args.seat.now.me c.loop.seat.me c.load-drawn.new.seat.me c.load-drawn.result c.if-drawn-last.false c.loop.invariant.1 c.load-drawn.ensures.2) c.compare_exchange-found.ensures.2

pub loop-preserved : goal.loop-preserved
loop-preserved g c = (
  c.compare_exchange-found.ensures.0 ∙ c.load-drawn.ensures.0 ∙ c.loop.invariant.0,
  drew_none g.S.Stands.stands c.self.inside.table.shared.table_id.slots c.compare_exchange-found.result c.load-drawn.result (c.load-drawn.result + 1) c.args.seat.now.me c.load-drawn.new.seat.me c.compare_exchange-found.new.seat.me c.if-found-drawn.false
      (read_more c.args.seat.now.me c.loop.seat.me c.load-drawn.new.seat.me c.load-drawn.result c.if-drawn-last.false c.loop.invariant.1 c.load-drawn.ensures.2) c.compare_exchange-found.ensures.2,
)
