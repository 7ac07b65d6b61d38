-- From the text come the tokens, and from them the document.
use Rattle.doc_tree.proofs.RoundTrip.{text-inj}
use Rattle.doc_tree.proofs.laws.one_text.Goals as goal

pub returns : goal.returns
returns c = text-inj
