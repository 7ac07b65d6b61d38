-- The tokens of the text are those of the document.
use Rattle.doc_tree.proofs.RoundTrip.{reads-text}
use Rattle.doc_tree.proofs.laws.text_reads_back.Goals as goal

pub returns : goal.returns
returns c = reads-text
