-- The first kind of this word is found.
use Rattle.std.proofs.Common.{◌∙◌, bytes_eq, rules, tests}
use Rattle.std.proofs.lemmas.Iterator.{YieldsList-from_slice}
use Rattle.std.proofs.lemmas.Iterator.Search.{find_from_yields_List}
use Rattle.doc_tree.specs.Kind.{word_of}
use Rattle.row_reading.proofs.kinds.named_among.Goals as goal

pub returns : goal.returns
returns c =
    c.copied.ensures
    ∙ find_from_yields_List (λ kind. bytes_eq c.args.word.now (word_of kind)) _ _ _ c.find.ensures.ran (YieldsList-from_slice c.args.kinds.now c.iter.ensures.rest) (λ x b q k. search (rules, tests))
