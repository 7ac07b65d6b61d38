-- A body that is the text of a tree's document says that document.
use Rattle.std.proofs.Common.{◌≡◌, true, bytes_eq, arith}
use Rattle.doc_tree.specs.Tree.{doc_of}
use Rattle.doc_tree.specs.Written.{text}
use Rattle.row_reading.proofs.BodyLemmas.{text_is_of}
use Rattle.row_reading.proofs.bodies.is_text_of.Goals as goal

pub returns-clause-compact : goal.returns-clause-compact
returns-clause-compact c holds =
    let same : bytes_eq (text (doc_of c.args.tree.now)) c.args.body.now ≡ true = grind arith in
    text_is_of (doc_of c.args.tree.now) c.args.body.now c.known.ensures same
