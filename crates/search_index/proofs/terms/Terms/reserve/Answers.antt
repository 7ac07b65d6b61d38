-- The terms are as they were, in as many numbers as there was memory for.
use Rattle.std.proofs.Common.{refl, subst, arith}
use Rattle.ordered_keys.specs.Keys.{Keys}
use Rattle.search_index.specs.KeyOrder.{TermKey}
use Rattle.search_index.specs.Terms.{MakesRoom, terms_in}
use Rattle.search_index.proofs.TermLemmas.{grown_terms, grows_none, grows_some}
use Rattle.search_index.proofs.terms.Terms.reserve.Goals as goal

pub invariant_of-self : goal.invariant_of-self
invariant_of-self c = (grown_terms c.self.inside.numbers c.self.inside.numbers c.self.inside.words c.reserve.new.self c.self.inside.hashed c.self.inside.hasher 0 c.args.terms c.self.invariant c.reserve.ensures.same (grows_none c.self.inside.numbers) (omega arith) refl c.self.invariant.are.few).kept

pub invariant_of-self-in_err-grow : goal.invariant_of-self-in_err-grow
invariant_of-self-in_err-grow c =
    let numbers = c.self.inside.numbers in
    let words = c.self.inside.words in
    let grows = grows_some c.grow.result numbers c.grow.new.self c.saturating_sub-more.result c.grow.ensures.ok c.grow.ensures.err in
    let all = c.in-Some-checked_add.ensures.1 in
    let size = c.size.ensures in
    let most = c.if-size-gt-MOST_NUMBERS.false in
    let more = c.saturating_sub-more.ensures in
    let grown = grown_terms numbers c.grow.new.self words c.reserve.new.self c.self.inside.hashed c.self.inside.hasher c.saturating_sub-more.result c.args.terms c.self.invariant c.reserve.ensures.same grows (omega (arith, more)) c.grow.ensures.order (let a = grows.size in omega (arith, a, all, size, most)) in
    grown.kept

pub invariant_of-self-in_err-begin_anew : goal.invariant_of-self-in_err-begin_anew
invariant_of-self-in_err-begin_anew c =
    let numbers = c.self.inside.numbers in
    let words = c.self.inside.words in
    let grows = grows_some c.grow.result numbers c.grow.new.self c.saturating_sub-more.result c.grow.ensures.ok c.grow.ensures.err in
    let all = c.in-Some-checked_add.ensures.1 in
    let size = c.size.ensures in
    let most = c.if-size-gt-MOST_NUMBERS.false in
    let more = c.saturating_sub-more.ensures in
    let grown = grown_terms numbers c.grow.new.self words c.reserve.new.self c.self.inside.hashed c.self.inside.hasher c.saturating_sub-more.result c.args.terms c.self.invariant c.reserve.ensures.same grows (omega (arith, more)) c.grow.ensures.order (let a = grows.size in omega (arith, a, all, size, most)) in
    record { are = grown.kept.are; met = c.begin_anew.ensures }

pub invariant_of-self-in-Continue-branch-3 : goal.invariant_of-self-in-Continue-branch-3
invariant_of-self-in-Continue-branch-3 c =
    let numbers = c.self.inside.numbers in
    let words = c.self.inside.words in
    let grows = grows_some c.grow.result numbers c.grow.new.self c.saturating_sub-more.result c.grow.ensures.ok c.grow.ensures.err in
    let all = c.in-Some-checked_add.ensures.1 in
    let size = c.size.ensures in
    let most = c.if-size-gt-MOST_NUMBERS.false in
    let more = c.saturating_sub-more.ensures in
    let grown = grown_terms numbers c.grow.new.self words c.reserve.new.self c.self.inside.hashed c.self.inside.hasher c.saturating_sub-more.result c.args.terms c.self.invariant c.reserve.ensures.same grows (omega (arith, more)) c.grow.ensures.order (let a = grows.size in omega (arith, a, all, size, most)) in
    record { are = grown.kept.are; met = c.begin_anew.ensures }

pub invariant_of-self-else-is_full_with : goal.invariant_of-self-else-is_full_with
invariant_of-self-else-is_full_with c =
    let numbers = c.self.inside.numbers in
    let words = c.self.inside.words in
    let grows = grows_some c.grow.result numbers c.grow.new.self c.saturating_sub-more.result c.grow.ensures.ok c.grow.ensures.err in
    let all = c.in-Some-checked_add.ensures.1 in
    let size = c.size.ensures in
    let most = c.if-size-gt-MOST_NUMBERS.false in
    let more = c.saturating_sub-more.ensures in
    let grown = grown_terms numbers c.grow.new.self words c.reserve.new.self c.self.inside.hashed c.self.inside.hasher c.saturating_sub-more.result c.args.terms c.self.invariant c.reserve.ensures.same grows (omega (arith, more)) c.grow.ensures.order (let a = grows.size in omega (arith, a, all, size, most)) in
    grown.kept

pub returns-in_err-begin_anew-clause-same : goal.returns-in_err-begin_anew-clause-same
returns-in_err-begin_anew-clause-same c =
    let numbers = c.self.inside.numbers in
    let words = c.self.inside.words in
    let grows = grows_some c.grow.result numbers c.grow.new.self c.saturating_sub-more.result c.grow.ensures.ok c.grow.ensures.err in
    let all = c.in-Some-checked_add.ensures.1 in
    let size = c.size.ensures in
    let most = c.if-size-gt-MOST_NUMBERS.false in
    let more = c.saturating_sub-more.ensures in
    let grown = grown_terms numbers c.grow.new.self words c.reserve.new.self c.self.inside.hashed c.self.inside.hasher c.saturating_sub-more.result c.args.terms c.self.invariant c.reserve.ensures.same grows (omega (arith, more)) c.grow.ensures.order (let a = grows.size in omega (arith, a, all, size, most)) in
    subst (λ (k : Keys TermKey). MakesRoom k (terms_in c.grow.new.self c.reserve.new.self) c.args.terms) c.self.view_is grown.makes

pub returns-in_ok-begin_anew-clause-same : goal.returns-in_ok-begin_anew-clause-same
returns-in_ok-begin_anew-clause-same c =
    let numbers = c.self.inside.numbers in
    let words = c.self.inside.words in
    let grows = grows_some c.grow.result numbers c.grow.new.self c.saturating_sub-more.result c.grow.ensures.ok c.grow.ensures.err in
    let all = c.in-Some-checked_add.ensures.1 in
    let size = c.size.ensures in
    let most = c.if-size-gt-MOST_NUMBERS.false in
    let more = c.saturating_sub-more.ensures in
    let grown = grown_terms numbers c.grow.new.self words c.reserve.new.self c.self.inside.hashed c.self.inside.hasher c.saturating_sub-more.result c.args.terms c.self.invariant c.reserve.ensures.same grows (omega (arith, more)) c.grow.ensures.order (let a = grows.size in omega (arith, a, all, size, most)) in
    subst (λ (k : Keys TermKey). MakesRoom k (terms_in c.grow.new.self c.reserve.new.self) c.args.terms) c.self.view_is grown.makes

pub returns-else-is_full_with-clause-same : goal.returns-else-is_full_with-clause-same
returns-else-is_full_with-clause-same c =
    let numbers = c.self.inside.numbers in
    let words = c.self.inside.words in
    let grows = grows_some c.grow.result numbers c.grow.new.self c.saturating_sub-more.result c.grow.ensures.ok c.grow.ensures.err in
    let all = c.in-Some-checked_add.ensures.1 in
    let size = c.size.ensures in
    let most = c.if-size-gt-MOST_NUMBERS.false in
    let more = c.saturating_sub-more.ensures in
    let grown = grown_terms numbers c.grow.new.self words c.reserve.new.self c.self.inside.hashed c.self.inside.hasher c.saturating_sub-more.result c.args.terms c.self.invariant c.reserve.ensures.same grows (omega (arith, more)) c.grow.ensures.order (let a = grows.size in omega (arith, a, all, size, most)) in
    subst (λ (k : Keys TermKey). MakesRoom k (terms_in c.grow.new.self c.reserve.new.self) c.args.terms) c.self.view_is grown.makes
