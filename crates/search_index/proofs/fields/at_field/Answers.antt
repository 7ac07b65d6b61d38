-- The terms of a field, one by one.
use Rattle.std.proofs.Common.{◌≡◌, ◌∙◌, ◌↔◌, ◌+◌, ℕ, List, take, get_or, sym, ap, subst}
use Rattle.std.specs.Global.{Vec}
use Rattle.std.proofs.lemmas.Bool.{false≢true}
use Rattle.std.proofs.lemmas.Grind.{get_or_default_zero}
use Rattle.ordered_keys.specs.Numbers.{Among}
use Rattle.ordered_keys.specs.Keys.{AreBetween}
use Rattle.search_index.specs.KeyOrder.{term_cmp, term_key}
use Rattle.search_index.specs.Net.{Has}
use Rattle.search_index.proofs.FoundLemmas.{in_among}
use Rattle.search_index.proofs.SeekLemmas.{AtSoFar, at_ends, at_less, at_more}
use Rattle.search_index.proofs.fields.at_field.Goals as goal
use Rattle.search_index.proofs.fields.at_field.Goals.{then-gives+in_ok-objects+in_ok-extend_from_slice, else-gives}

pub loop-term-preserved : goal.loop-term-preserved
loop-term-preserved c =
    let numbers : List ℕ = c.deref-term-items.result.now in
    let i = c.loop-term.term-index in
    let j : ℕ = get_or numbers i 0 in
    let at : j ≡ get_or numbers i j = sym (get_or_default_zero numbers i j c.loop-term-test.true) in
    elim c.if-gives.branch [
      | then-gives+in_ok-objects+in_ok-extend_from_slice w ↦
          subst (λ (z : List ℕ). AtSoFar c.args.terms.now c.args.postings.now c.args.scope c.args.field.now c.args.wanted.now (take (i + 1) numbers) z) (sym (ap (λ (v : Vec ℕ). v.items) w.found-is ∙ w.in_ok-extend_from_slice.ensures.items))
          (at_more c.args.terms.now c.args.postings.now c.args.scope c.args.field.now c.args.wanted.now numbers c.loop-term.found.items w.deref-then-gives.result.now i j c.loop-term-test.true at c.loop-term.invariant (c.gives.ensures.0 w.if-gives.true)
          (subst (λ (z : List ℕ). (x : ℕ) → Among z x ↔ Has c.args.postings.now x j) (sym w.deref-then-gives.ensures.value) w.in_ok-objects.ensures))
      | else-gives w ↦
          subst (λ (z : List ℕ). AtSoFar c.args.terms.now c.args.postings.now c.args.scope c.args.field.now c.args.wanted.now (take (i + 1) numbers) z) (sym (ap (λ (v : Vec ℕ). v.items) w.found-is))
          (at_less c.args.terms.now c.args.postings.now c.args.scope c.args.field.now c.args.wanted.now numbers c.loop-term.found.items i j c.loop-term-test.true at c.loop-term.invariant (λ g. false≢true (sym w.if-gives.false ∙ c.gives.ensures.1 g)))
    ]

pub returns : goal.returns
returns c x =
    let b = c.in_ok-bounds.bounds in
    let numbers : List ℕ = c.deref-term-items.result.now in
    let between = subst (λ (z : List ℕ). AreBetween term_cmp c.args.terms.now (term_key c.args.scope c.args.field.now z) (term_key c.args.scope b.past.items b.high.items) numbers) c.deref.ensures.value
    (subst (λ (z : List ℕ). AreBetween term_cmp c.args.terms.now (term_key c.args.scope c.args.field.now c.deref.result.now) (term_key c.args.scope z b.high.items) numbers) c.deref-2.ensures.value
    (subst (λ (z : List ℕ). AreBetween term_cmp c.args.terms.now (term_key c.args.scope c.args.field.now c.deref.result.now) (term_key c.args.scope c.deref-2.result.now z) numbers) c.deref-3.ensures.value
    (subst (λ (z : List ℕ). AreBetween term_cmp c.args.terms.now (term_key c.args.scope c.args.field.now c.deref.result.now) (term_key c.args.scope c.deref-2.result.now c.deref-3.result.now) z) (sym c.deref-term-items.ensures.value) c.in_ok-numbers.ensures))) in
    let all = at_ends c.args.terms.now c.args.postings.now c.args.scope c.args.field.now c.args.wanted.now numbers c.loop-term.found.items c.loop-term.term-index b c.loop-term-test.false c.loop-term.invariant between c.in_ok-bounds.ensures x in
    let told = in_among c.loop-term.found.items x in (
      λ h. all.0 (told.0 (sym (c.of.ensures x) ∙ h)),
      λ t. c.of.ensures x ∙ told.1 (all.1 t),
    )
