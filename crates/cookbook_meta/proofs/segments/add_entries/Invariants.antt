-- All entries are those so far with those of the trees that are left behind them.
use Rattle.std.proofs.Common.{◌≡◌, map, drop}
use Rattle.doc_tree.specs.Doc.{docs_of}
use Rattle.doc_tree.specs.Tree.{doc_of}
use Rattle.cookbook_meta.specs.Entries as spec
use Rattle.cookbook_meta.proofs.segments.add_entries.Given as goal

abbrev pub invariant-loop-tree : goal.invariant-loop-tree
invariant-loop-tree l =
    spec.with_entries l.segment (docs_of (map doc_of l.tree-items)) l.fn.files
    ≡ spec.with_entries l.segment (docs_of (map doc_of (drop l.tree-index l.tree-items))) l.files
