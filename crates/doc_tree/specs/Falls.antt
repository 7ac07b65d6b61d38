-- What a list or a dict holds is less deep than it.
use Rattle.std.specs.Prelude.{◌≤◌, ◌∷◌, [], List, map}
use Rattle.std.proofs.Common.{arith}
use denote.Param.Weighed.{most}
use Rattle.doc_tree.specs.Doc.{depth, docs_of, docs_depth, pairs_of, pairs_depth}
use Rattle.doc_tree.specs.Tree.{doc_of, pair_of}
use Rattle.doc_tree.specs.declared.tree.Tree.{Tree}
use Rattle.doc_tree.specs.declared.tree.Tree.TheVariants as tree
use Rattle.doc_tree.specs.declared.tree.Field.{Field}
use Rattle.doc_tree.specs.declared.tree.Fields.TheDeep.{deep-Tree, deep-Field}

-- the measure of a tree is at most the depth of its document
deep-Tree_le-depth : (t : Tree) → deep-Tree t ≤ depth (doc_of t)
deep-Tree_le-depth tree.Null = omega arith
deep-Tree_le-depth (tree.Bool b) = omega arith
deep-Tree_le-depth (tree.Whole z) = omega arith
deep-Tree_le-depth (tree.Words s) = omega arith
deep-Tree_le-depth (tree.List ds) = omega arith
deep-Tree_le-depth (tree.Dict ps) = omega arith

-- the measure of a list's trees is at most the depth of their documents
pub most_le-docs_depth : (ts : List Tree) → most deep-Tree ts ≤ docs_depth (docs_of (map doc_of ts))
most_le-docs_depth [] = omega arith
most_le-docs_depth (t ∷ ts) =
    let first = deep-Tree_le-depth t in
    let rest = most_le-docs_depth ts in
    omega arith

-- the measure of a field is at most the depth of its document
deep-Field_le-depth : (f : Field) → deep-Field f ≤ depth (doc_of f.tree)
deep-Field_le-depth f = let inner = deep-Tree_le-depth f.tree in omega arith

-- the measure of a dict's fields is at most the depth of their documents
pub most_le-pairs_depth : (fs : List Field) → most deep-Field fs ≤ pairs_depth (pairs_of (map pair_of fs))
most_le-pairs_depth [] = omega arith
most_le-pairs_depth (f ∷ fs) =
    let first = deep-Field_le-depth f in
    let rest = most_le-pairs_depth fs in
    omega arith
