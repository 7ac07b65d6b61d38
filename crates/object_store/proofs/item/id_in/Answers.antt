use Rattle.std.proofs.Common.{option_copied, ap, sym, ◌∙◌}
use Rattle.object_store.proofs.ItemsLemmas.{behind-parts, behind-nothing}
use Rattle.object_store.proofs.item.id_in.Goals as goal

pub returns-in-Some : goal.returns-in-Some
returns-in-Some c = c.behind-in-Some.ensures ∙ behind-parts c.args.bag.now c.args.name.now c.in-Some.rest.now (sym c.behind.ensures ∙ ap option_copied c.in-Some.is)

pub returns-in-None : goal.returns-in-None
returns-in-None c = sym (behind-nothing c.args.bag.now c.args.name.now (sym c.behind.ensures ∙ ap option_copied c.in-None.is))
