-- Its terms are gone through, and one of them gives what is wanted or none does.
use Rattle.std.proofs.Common.{◌∙◌, ◌↔◌, ℕ, List, get_or, refl, sym, subst}
use Rattle.std.proofs.lemmas.Bool.{false≢true}
use Rattle.std.proofs.lemmas.Grind.{get_or_default_zero}
use Rattle.std.proofs.lemmas.List.{take_all}
use Rattle.ordered_keys.specs.Numbers.{Among}
use Rattle.search_index.specs.Net.{Has}
use Rattle.search_index.specs.Seeking.{Gives}
use Rattle.search_index.proofs.SeekLemmas.{among_at}
use Rattle.search_index.proofs.SeekLemmas.{none_more}
use Rattle.search_index.proofs.fields.has_given.Goals as goal

pub loop-term-preserved : goal.loop-term-preserved
loop-term-preserved c =
    let numbers : List ℕ = c.as_slice-term-items.result.now in
    let i = c.loop-term.term-index in
    let j : ℕ = get_or numbers i 0 in
    none_more (Gives c.args.terms.now c.args.scope c.args.field.now c.args.wanted.now) numbers i j c.loop-term-test.true (sym (get_or_default_zero numbers i j c.loop-term-test.true)) c.loop-term.invariant
    (λ given. false≢true (sym c.if-gives.false ∙ c.gives.ensures.1 given))

pub returns-then-gives : goal.returns-then-gives
returns-then-gives c =
    let numbers : List ℕ = c.as_slice-term-items.result.now in
    let j : ℕ = get_or numbers c.loop-term.term-index 0 in
    let own = subst (λ (z : List ℕ). (term : ℕ) → Among z term ↔ Has c.args.postings.now c.args.object term) (sym c.as_slice-term-items.ensures.value) c.in_ok-own.ensures in
    (λ _. (j, c.gives.ensures.0 c.if-gives.true, (own j).0 (among_at numbers c.loop-term.term-index c.loop-term-test.true)), λ _. refl)

pub returns : goal.returns
returns c =
    let numbers : List ℕ = c.as_slice-term-items.result.now in
    let own = subst (λ (z : List ℕ). (term : ℕ) → Among z term ↔ Has c.args.postings.now c.args.object term) (sym c.as_slice-term-items.ensures.value) c.in_ok-own.ensures in
    let none = subst (λ (z : List ℕ). (j : ℕ) → Among z j → Gives c.args.terms.now c.args.scope c.args.field.now c.args.wanted.now j → ⊥) (take_all c.loop-term.term-index numbers c.loop-term-test.false) c.loop-term.invariant in
    (λ wrong. absurd (false≢true wrong), λ h. absurd (none h.0 ((own h.0).1 h.2) h.1))
