-- Names and pins tell the roots.
use Rattle.run_lists.specs.Roots.{roots_in}
use Rattle.run_lists.proofs.AskingLemmas.{same_roots}
use Rattle.run_lists.proofs.asking.roots_of.Goals as goal

pub returns-clause-roots : goal.returns-clause-roots
returns-clause-roots c = same_roots _ (roots_in c.args.items.now) c.in_ok-names.ensures.names c.in_ok-pins.ensures
