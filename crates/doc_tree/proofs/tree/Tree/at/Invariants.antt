-- What is at the rest of the path from here is what is at the path.
use Rattle.std.proofs.Common.{◌≡◌, drop}
use Rattle.doc_tree.specs.Part.{at}
use Rattle.doc_tree.specs.Tree.{doc_of}
use Rattle.doc_tree.proofs.tree.Tree.at.Given as goal

abbrev pub invariant-loop-key : goal.invariant-loop-key
invariant-loop-key l = at (drop l.key-index l.path) (doc_of l.here) ≡ at l.path (doc_of l.self)
