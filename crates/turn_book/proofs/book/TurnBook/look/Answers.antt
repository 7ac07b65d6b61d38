use Rattle.std.proofs.Common.{rules, ◌∙◌, sym}
use Rattle.turn_book.proofs.StepLemmas.{looks}
use Rattle.turn_book.proofs.SeatLemmas.{look_tells}
use Rattle.turn_book.proofs.book.TurnBook.look.Goals as goal

pub load-requires : goal.load-requires
load-requires g c = (c.requires.own ∙ sym c.self.view_is, search rules, looks g.S.Stands.stands g.S.Stands.opened c.self.inside.table.shared.key _ _ _ c.requires.waits.1)

pub returns-clause-saw : goal.returns-clause-saw
returns-clause-saw g c = look_tells g.S.Stands.stands c.self.inside.table.shared.table_id.slots c.args.ticket c.load.result c.args.seat.now.me c.load.new.seat.me c.requires.waits c.load.ensures.2
