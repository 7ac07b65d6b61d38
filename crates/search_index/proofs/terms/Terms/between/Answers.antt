-- The terms are cut by either bound, and those between them are found.
use Rattle.std.proofs.Common.{ℕ, IfOk, subst}
use Rattle.std.specs.Global.{Vec}
use Rattle.ordered_keys.specs.Keys.{AreBetween, Keys}
use Rattle.search_index.specs.KeyOrder.{TermKey, term_cmp}
use Rattle.search_index.specs.Terms.{term_at}
use Rattle.search_index.proofs.TermLemmas.{between_ok, cut_words}
use Rattle.search_index.proofs.terms.Terms.between.Goals as goal

pub between-requires-clause-low : goal.between-requires-clause-low
between-requires-clause-low c = cut_words c.self.inside.words c.self.inside.numbers (term_at c.args.low.now) c.self.invariant.are.in_order

pub between-requires-clause-high : goal.between-requires-clause-high
between-requires-clause-high c = cut_words c.self.inside.words c.self.inside.numbers (term_at c.args.high.now) c.self.invariant.are.in_order

pub returns : goal.returns
returns c =
    subst (λ (k : Keys TermKey). IfOk c.between.result (λ (numbers : Vec ℕ). AreBetween term_cmp k (term_at c.args.low.now) (term_at c.args.high.now) numbers.items)) c.self.view_is
    (between_ok c.self.inside.words c.self.inside.numbers (term_at c.args.low.now) (term_at c.args.high.now) c.between.result c.between.ensures)
