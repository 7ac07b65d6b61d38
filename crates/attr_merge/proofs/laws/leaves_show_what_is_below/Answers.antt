use Rattle.attr_merge.proofs.BelowLemmas.{leaves-show-what-is-below}
use Rattle.attr_merge.proofs.laws.leaves_show_what_is_below.Goals as goal

pub returns : goal.returns
returns c = leaves-show-what-is-below
