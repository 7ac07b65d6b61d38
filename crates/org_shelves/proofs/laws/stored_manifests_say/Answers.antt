use Rattle.doc_tree.specs.Tree.{doc_of}
use Rattle.org_shelves.proofs.SaysLemmas.{says}
use Rattle.org_shelves.proofs.laws.stored_manifests_say.Goals as goal

pub returns : goal.returns
returns c = λ m kept. says m.name m.version (doc_of m.whole) m kept
