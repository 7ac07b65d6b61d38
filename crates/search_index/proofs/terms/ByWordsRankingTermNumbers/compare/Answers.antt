-- Terms of one field are in the order of their values.
use Rattle.std.proofs.Common.{◌∙◌, sym, ap₂}
use Rattle.std.specs.Cmp.Lexicographic.{slice_cmp}
use Rattle.std.specs.Ordering.{nat_cmp}
use Rattle.search_index.proofs.TermLemmas.{one_field}
use Rattle.search_index.proofs.terms.ByWordsRankingTermNumbers.compare.Goals as goal

pub returns-then-item-other-2 : goal.returns-then-item-other-2
returns-then-item-other-2 c =
    c.cmp.ensures ∙ ap₂ (slice_cmp nat_cmp) c.word.ensures c.word-then-item-other-2.ensures
    ∙ sym (one_field c.args.self.now.words.now c.args.item.now c.args.other.now c.if-item-other.true c.if-item-other-2.true)
