-- The texts in order are checksums just where those of the list are.
use Rattle.std.proofs.Common.{◌≡◌, IfOk, codes, sym, ◌∙◌, subst}
use Rattle.doc_tree.specs.Tree.{doc_of}
use Rattle.org_rows.specs.Reading.{texts_at}
use Rattle.row_reading.proofs.SumsLemmas.{sums_among}
use Rattle.row_reading.proofs.checksums.sums_in.Goals as goal

pub returns-in-Some : goal.returns-in-Some
returns-in-Some c =
    let found = texts_at (codes "checksums") (doc_of c.args.tree.now) in
    subst (λ o. IfOk c.sums_of-sums.result (λ sums. sums ≡ o)) (sums_among c.in-Some.texts found (sym c.in-Some.is ∙ c.in_ok-texts.ensures)) c.sums_of-sums.ensures
