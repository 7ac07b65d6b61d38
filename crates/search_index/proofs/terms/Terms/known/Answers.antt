-- Terms in order are each there once.
use Rattle.std.proofs.Common.{subst}
use Rattle.ordered_keys.specs.Keys.{IsOnce, Keys}
use Rattle.search_index.specs.KeyOrder.{TermKey}
use Rattle.search_index.proofs.TermLemmas.{once_words}
use Rattle.search_index.proofs.terms.Terms.known.Goals as goal

pub returns : goal.returns
returns c = subst (λ (k : Keys TermKey). IsOnce k) c.self.view_is (once_words c.self.inside.words c.self.inside.numbers c.self.invariant.are.in_order)
