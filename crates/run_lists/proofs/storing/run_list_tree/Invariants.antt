-- The trees so far are those of the first items.
use Rattle.std.proofs.Common.{◌≡◌, map, take}
use Rattle.doc_tree.specs.Doc.{words}
use Rattle.run_lists.specs.Stored.{Stored}
use Rattle.run_lists.proofs.storing.run_list_tree.Given as goal

abbrev pub invariant-loop-item : goal.invariant-loop-item
invariant-loop-item l = l.trees ≡ map (λ (item : Stored). words item.text) (take l.item-index l.items)
