use Rattle.std.proofs.Common.{Some, option_map, ap, sym, ◌∙◌}
use Rattle.doc_tree.specs.Tree.{doc_of}
use Rattle.resource_core.specs.Entries.{entry_by, entry_of}
use Rattle.resource_core.proofs.EachLemmas.{made_more}
use Rattle.resource_core.proofs.entries.each_entry.Goals as goal

pub loop-tree-preserved : goal.loop-tree-preserved
loop-tree-preserved c =
    made_more entry_of doc_of _ _ c.loop-tree.tree-index c.tree-item.result c.loop-tree.entries _ _ c.loop-tree-test.true c.tree-item.is
    (sym c.entry_of.ensures ∙ ap (option_map entry_by) c.in-Some.is ∙ ap Some (sym c.in_ok-copied-in-Some.ensures)) c.in_ok-push-in-Some.ensures.ok c.loop-tree.invariant
