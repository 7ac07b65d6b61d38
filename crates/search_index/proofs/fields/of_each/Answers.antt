-- Each of them by itself.
use Rattle.std.proofs.Common.{◌≡◌, ◌∙◌, ◌↔◌, ◌+◌, ℕ, List, take, get_or, sym, ap, subst}
use Rattle.std.specs.Global.{Vec}
use Rattle.std.proofs.lemmas.Bool.{false≢true}
use Rattle.std.proofs.lemmas.Grind.{get_or_default_zero}
use Rattle.std.proofs.lemmas.List.{take_all}
use Rattle.ordered_keys.specs.Numbers.{Among}
use Rattle.search_index.specs.Seeking.{HasGiven}
use Rattle.search_index.proofs.FoundLemmas.{in_among}
use Rattle.search_index.proofs.SeekLemmas.{each_less, each_more}
use Rattle.search_index.proofs.fields.of_each.Goals as goal
use Rattle.search_index.proofs.fields.of_each.Goals.{then-branch+in_ok-push, else-branch}

pub loop-object-preserved : goal.loop-object-preserved
loop-object-preserved c =
    let xs : List ℕ = c.as_slice-object-items.result.now in
    let i = c.loop-object.object-index in
    let n : ℕ = get_or xs i 0 in
    let given : ℕ → Type 0 = HasGiven c.args.terms.now c.args.postings.now c.args.scope c.args.field.now c.args.wanted.now in
    let at : n ≡ get_or xs i n = sym (get_or_default_zero xs i n c.loop-object-test.true) in
    elim c.if-branch.branch [
      | then-branch+in_ok-push w ↦
          subst (λ (z : List ℕ). (x : ℕ) → Among z x ↔ (Among (take (i + 1) xs) x × given x)) (sym (ap (λ (v : Vec ℕ). v.items) w.found-is ∙ w.in_ok-push.ensures.items))
          (each_more given xs c.loop-object.found.items i n c.loop-object-test.true at c.loop-object.invariant (c.in_ok-has_given.ensures.0 w.if-branch.true))
      | else-branch w ↦
          subst (λ (z : List ℕ). (x : ℕ) → Among z x ↔ (Among (take (i + 1) xs) x × given x)) (sym (ap (λ (v : Vec ℕ). v.items) w.found-is))
          (each_less given xs c.loop-object.found.items i n c.loop-object-test.true at c.loop-object.invariant (λ g. false≢true (sym w.if-branch.false ∙ c.in_ok-has_given.ensures.1 g)))
    ]

pub returns : goal.returns
returns c x =
    let xs : List ℕ = c.as_slice-object-items.result.now in
    let all = subst (λ (z : List ℕ). Among c.loop-object.found.items x ↔ (Among z x × HasGiven c.args.terms.now c.args.postings.now c.args.scope c.args.field.now c.args.wanted.now x)) (take_all c.loop-object.object-index xs c.loop-object-test.false ∙ c.as_slice-object-items.ensures) (c.loop-object.invariant x) in
    let told = in_among c.loop-object.found.items x in
    let was = in_among c.args.objects.now x in (
      λ h. let a = all.0 (told.0 (sym (c.of.ensures x) ∙ h)) in (was.1 a.0, a.1),
      λ h. c.of.ensures x ∙ told.1 (all.1 (was.0 h.0, h.1)),
    )
