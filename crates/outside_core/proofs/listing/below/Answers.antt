use Rattle.std.proofs.Common.{option_copied, ap, sym, ◌∙◌}
use Rattle.outside_core.proofs.ListingLemmas.{below-some, below-none, named-none}
use Rattle.outside_core.proofs.listing.below.Goals as goal

pub returns-in-Some-clause-some : goal.returns-in-Some-clause-some
returns-in-Some-clause-some c =
    below-some c.args.folder.now c.args.whole.now c.in-Some.name.now c.filled.result
    (sym c.behind_folder.ensures ∙ ap option_copied c.in-Some.is) c.filled.ensures.some

pub returns-in-Some-clause-none : goal.returns-in-Some-clause-none
returns-in-Some-clause-none c =
    below-none c.args.folder.now c.args.whole.now c.in-Some.name.now c.filled.result
    (sym c.behind_folder.ensures ∙ ap option_copied c.in-Some.is) c.filled.ensures.none

pub returns-in-None-clause-none : goal.returns-in-None-clause-none
returns-in-None-clause-none c = named-none c.args.folder.now c.args.whole.now (sym c.behind_folder.ensures ∙ ap option_copied c.in-None.is)
