-- The lines tell the counts of all replies.
use Rattle.chefsite.proofs.DemoLemmas.{told_if}
use Rattle.chefsite.proofs.demo.lines_of.Goals as goal

pub returns : goal.returns
returns g c = told_if c.lines.result c.args.size c.in_ok-counts.counts c.in_ok-counts.ensures c.lines.ensures
