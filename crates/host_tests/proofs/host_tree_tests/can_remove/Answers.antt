use Rattle.std.proofs.Common.{ap, ◌∙◌}
use Rattle.host_tree.specs.Entries.{at}
use Rattle.host_tree.proofs.EntryLemmas.{removable}
use Rattle.host_tests.proofs.host_tree_tests.can_remove.Goals as goal

pub returns-in-Some : goal.returns-in-Some
returns-in-Some c =
    λ can. removable c.args.path.now c.args.host.now c.held.result c.in-Some.is (c.held.ensures.value ∙ ap (at c.args.host.now) c.as_text.ensures.value) (c.in_ok-reached.ensures.0 can)
