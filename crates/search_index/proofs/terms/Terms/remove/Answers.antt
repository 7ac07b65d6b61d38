-- A term is out, with the words that no other uses.
use Rattle.std.proofs.Common.{ap, is_some, subst}
use Rattle.ordered_keys.specs.Keys.{Keys}
use Rattle.search_index.specs.KeyOrder.{TermKey}
use Rattle.search_index.specs.Terms.{TakesOut, terms_in}
use Rattle.search_index.proofs.TermLemmas.{IsTakenOut, can_leave_words, item_is, left_before, taken_out, terms_met, value_left}
use Rattle.search_index.proofs.terms.Terms.remove.Goals as goal

pub remove-requires : goal.remove-requires
remove-requires c = can_leave_words c.self.inside.words c.self.inside.numbers c.args.number c.self.invariant.are.in_order (ap is_some (item_is c.self.inside.words c.self.inside.numbers c.args.number c.item-term.result.now c.item-term.ensures))

pub release-requires-2 : goal.release-requires-2
release-requires-2 c = value_left c.self.inside.numbers c.remove.new.self c.self.inside.words c.release.new.self c.item-term.result.now c.args.number c.self.invariant.are c.known.ensures c.item-term.ensures c.remove.ensures.gone c.release.ensures

out : (c : goal.After-release-2) → IsTakenOut c.self.inside.numbers c.remove.new.self c.self.inside.words c.release-2.new.self c.args.number
out c = taken_out c.self.inside.numbers c.remove.new.self c.self.inside.words c.release.new.self c.item-term.result.now c.args.number c.self.invariant.are c.known.ensures c.item-term.ensures c.remove.ensures.gone c.release.ensures c.release-2.new.self c.remove.ensures.order c.release-2.ensures

pub invariant_of-self : goal.invariant_of-self
invariant_of-self c = record {
  are = (out c).are;
  met = terms_met c.self.inside.hasher c.self.inside.numbers c.remove.new.self c.self.inside.hashed (left_before c.self.inside.numbers c.remove.new.self c.args.number c.remove.ensures.gone) c.self.invariant.met;
}

pub returns : goal.returns
returns c = subst (λ (k : Keys TermKey). TakesOut k (terms_in c.remove.new.self c.release-2.new.self) c.args.number) c.self.view_is (out c).takes
