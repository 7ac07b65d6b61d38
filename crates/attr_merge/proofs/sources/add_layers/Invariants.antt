-- The layers so far, and those of the entries that are left.
use Rattle.std.proofs.Common.{◌≡◌, ◌++◌, map, drop}
use Rattle.std.specs.List.{filter_map}
use Rattle.doc_tree.specs.Tree.{doc_of}
use Rattle.attr_merge.specs.Sources.{layer_at}
use Rattle.attr_merge.proofs.sources.add_layers.Given as goal

abbrev pub invariant-loop-entry : goal.invariant-loop-entry
invariant-loop-entry l =
    l.layers.items ++ filter_map (layer_at l.level) (map doc_of (drop l.entry-index l.entry-items)) ≡ l.fn.layers.items ++ filter_map (layer_at l.level) l.entries
