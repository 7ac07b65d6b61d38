use Rattle.std.proofs.Common.{option_copied, ap, sym, ◌∙◌}
use Rattle.outside_core.proofs.FrontLemmas.{behind-parts, behind-nothing}
use Rattle.outside_core.proofs.listing.behind_folder.Goals as goal

pub returns-in-Some : goal.returns-in-Some
returns-in-Some c = c.behind-in-Some.ensures ∙ behind-parts c.args.folder.now c.args.whole.now c.in-Some.rest.now (sym c.behind.ensures ∙ ap option_copied c.in-Some.is)

pub returns-in-None : goal.returns-in-None
returns-in-None c = sym (behind-nothing c.args.folder.now c.args.whole.now (sym c.behind.ensures ∙ ap option_copied c.in-None.is))
