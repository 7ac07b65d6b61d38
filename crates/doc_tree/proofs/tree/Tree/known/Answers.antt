-- The keys of a dict are those of its fields.
use Rattle.doc_tree.proofs.Docs.{pairs_list-pairs_of}
use Rattle.doc_tree.proofs.tree.Tree.known.Goals as goal

pub returns-in-Dict : goal.returns-in-Dict
returns-in-Dict c = rw (c.in-Dict.is, pairs_list-pairs_of) (c.as_slice-entries.ensures.known, c.as_slice-entries.ensures.order)
