-- The terms are cut by the one that is looked for.
use Rattle.std.proofs.Common.{◌≡◌, ℕ, MatchOption, Some, subst}
use Rattle.ordered_keys.specs.Keys.{IsAbsent, Keys, key_of}
use Rattle.search_index.specs.KeyOrder.{TermKey, term_cmp}
use Rattle.search_index.specs.Terms.{term_at}
use Rattle.search_index.proofs.TermLemmas.{cut_words, found_words}
use Rattle.search_index.proofs.terms.Terms.find_in_order.Goals as goal

pub find-requires : goal.find-requires
find-requires c = cut_words c.self.inside.words c.self.inside.numbers (term_at c.args.term.now) c.self.invariant.are.in_order

pub returns : goal.returns
returns c =
    let k = term_at c.args.term.now in
    subst (λ (keys : Keys TermKey). MatchOption c.find.result (IsAbsent term_cmp keys k) (λ (i : ℕ). key_of keys i ≡ Some k)) c.self.view_is
    (found_words c.self.inside.words c.self.inside.numbers k c.find.result c.find.ensures)
