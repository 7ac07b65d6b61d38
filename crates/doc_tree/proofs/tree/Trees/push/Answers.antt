-- The new tree is a document, as are those before it.
use Rattle.std.proofs.lemmas.List.{map-append}
use Rattle.doc_tree.specs.Tree.{doc_of}
use Rattle.doc_tree.proofs.Docs.{AreDocs-append}
use Rattle.doc_tree.proofs.tree.Trees.push.Goals as goal

pub invariant_of-self-2 : goal.invariant_of-self-2
invariant_of-self-2 c = rw (c.in_ok-push.ensures.items, map-append) (AreDocs-append _ (doc_of c.args.tree) c.self.invariant c.known.ensures)
