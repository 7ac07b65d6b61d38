-- A term is in, and its words are used once more.
use Rattle.std.proofs.Common.{sym, subst}
use Rattle.ordered_keys.specs.Keys.{IsAbsent, Keys, Numbers}
use Rattle.search_index.specs.HashedNumbers.{IsMet}
use Rattle.search_index.specs.KeyOrder.{TermKey, term_cmp, term_key}
use Rattle.search_index.specs.Terms.{terms_in}
use Rattle.search_index.specs.declared.key.TermNumbers.{TermNumbers}
use Rattle.search_index.proofs.TermLemmas.{IsPutIn, cut_then, none_then, put_in, terms_met_with, uses_fit, uses_fit_then}
use Rattle.search_index.proofs.terms.Terms.insert.Goals as goal

pub take_in-requires-clause-uses : goal.take_in-requires-clause-uses
take_in-requires-clause-uses c = uses_fit c.self.inside.words c.self.inside.numbers c.self.invariant.are c.known.ensures

pub take_in-requires-2-clause-uses : goal.take_in-requires-2-clause-uses
take_in-requires-2-clause-uses c i = uses_fit_then c.self.inside.words c.self.inside.numbers c.self.invariant.are c.known.ensures c.take_in.new.self c.args.field c.take_in.result i c.take_in.ensures

pub insert-number-requires-clause-cut : goal.insert-number-requires-clause-cut
insert-number-requires-clause-cut c =
    let term : TermNumbers = record { scope = c.args.scope; field = c.take_in.result; value = c.take_in-2.result } in
    cut_then c.self.inside.numbers c.self.inside.words c.take_in.new.self c.take_in-2.new.self c.args.field c.args.value term c.self.invariant.are c.known.ensures c.take_in.ensures c.take_in-2.ensures

pub insert-number-requires-clause-absent : goal.insert-number-requires-clause-absent
insert-number-requires-clause-absent c =
    let term : TermNumbers = record { scope = c.args.scope; field = c.take_in.result; value = c.take_in-2.result } in
    none_then c.self.inside.numbers c.self.inside.words c.take_in.new.self c.take_in-2.new.self c.args.field c.args.value term c.self.invariant.are c.known.ensures c.take_in.ensures c.take_in-2.ensures
    (subst (λ (k : Keys TermKey). IsAbsent term_cmp k (term_key c.args.scope c.args.field c.args.value)) (sym c.self.view_is) c.requires.absent)

put : (c : goal.After-put) → IsPutIn c.self.inside.numbers c.insert-number.new.self c.self.inside.words c.take_in-2.new.self (term_key c.args.scope c.args.field c.args.value) c.insert-number.result
put c =
    let term : TermNumbers = record { scope = c.args.scope; field = c.take_in.result; value = c.take_in-2.result } in
    put_in c.self.inside.numbers c.self.inside.words c.take_in.new.self c.take_in-2.new.self c.args.field c.args.value term c.self.invariant.are c.known.ensures c.take_in.ensures c.take_in-2.ensures c.insert-number.new.self c.insert-number.result c.insert-number.ensures.put c.insert-number.ensures.order

pub invariant_of-self : goal.invariant_of-self
invariant_of-self c =
    let term : TermNumbers = record { scope = c.args.scope; field = c.take_in.result; value = c.take_in-2.result } in
    record {
      are = (put c).are;
      met = terms_met_with c.self.inside.hasher c.self.inside.numbers c.insert-number.new.self term c.insert-number.result c.self.inside.hashed c.put.new.self c.self.invariant.are.few c.insert-number.ensures.put c.self.invariant.met
          (subst (λ h. IsMet c.put.new.self h c.insert-number.result) c.term_hash.ensures c.put.ensures.met) c.put.ensures.keeps;
    }

pub returns : goal.returns
returns c = subst (λ (k : Keys TermKey). Numbers k (terms_in c.insert-number.new.self c.take_in-2.new.self) (term_key c.args.scope c.args.field c.args.value) c.insert-number.result) c.self.view_is (put c).numbers
