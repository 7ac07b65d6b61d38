use Rattle.std.proofs.Common.{option_copied, ap, sym, ◌∙◌}
use Rattle.object_store.proofs.ItemsLemmas.{names_item, names_no_item}
use Rattle.object_store.proofs.item.is_item.Goals as goal

pub returns-in-Some : goal.returns-in-Some
returns-in-Some c = c.eq.ensures ∙ names_item c.args.bag.now c.args.name.now c.args.id.now c.in-Some.rest.now (sym c.id_in.ensures ∙ ap option_copied c.in-Some.is)

pub returns-in-None : goal.returns-in-None
returns-in-None c = sym (names_no_item c.args.bag.now c.args.name.now c.args.id.now (sym c.id_in.ensures ∙ ap option_copied c.in-None.is))
