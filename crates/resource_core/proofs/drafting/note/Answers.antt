use Rattle.std.proofs.Common.{ap, sym, ◌∙◌, is_some}
use Rattle.resource_core.proofs.TitleLemmas.{copied_some, notes_kept, notes_new}
use Rattle.resource_core.proofs.drafting.note.Goals as goal

pub returns-then-is_some : goal.returns-then-is_some
returns-then-is_some c =
    notes_kept c.args.title c.args.place c.args.firsts.now (ap is_some (sym c.get.ensures.value) ∙ copied_some c.get.result ∙ sym c.is_some.ensures ∙ c.if-is_some.true)

pub returns : goal.returns
returns c =
    notes_new c.args.title c.args.place c.args.firsts.now c.insert.new.self (ap is_some (sym c.get.ensures.value) ∙ copied_some c.get.result ∙ sym c.is_some.ensures ∙ c.if-is_some.false) c.in_ok-insert.ensures.updates.0
