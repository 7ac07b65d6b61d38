-- The tokens that were read begin with the document that the tree is.
use Rattle.std.proofs.Common.{sym}
use Rattle.doc_tree.specs.Tree.{doc_of}
use Rattle.compact_json.proofs.NextLemmas.{first_is}
use Rattle.compact_json.proofs.read.read_doc.Goals as goal

pub returns : goal.returns
returns c = sym (first_is (doc_of c.in_ok-tree.tree) c.args.reader.now _ c.known.ensures c.in_ok-tree.ensures)
