-- One number more.
use Rattle.std.proofs.Common.{◌≡◌, ◌∙◌, ℕ, List, get_or, ap, sym}
use Rattle.std.specs.Global.{Vec}
use Rattle.std.proofs.Common.{Bool}
use Rattle.std.proofs.lemmas.Grind.{get_or_default_zero}
use Rattle.search_index.specs.Found.{both_are, is_in}
use Rattle.search_index.proofs.FoundLemmas.{beq_other, beq_same, kept_less, kept_more}
use Rattle.search_index.proofs.found.kept.Goals as goal
use Rattle.search_index.proofs.found.kept.Goals.{then-has-wanted+in_ok-push, else-has-wanted}

pub loop-number-preserved : goal.loop-number-preserved
loop-number-preserved c =
    let xs = c.as_slice-number-items.result.now in
    let i = c.loop-number.number-index in
    let n = get_or xs i 0 in
    let wanted : ℕ → Bool = λ x. both_are (is_in c.args.others.now x) c.args.wanted in
    let at : n ≡ get_or xs i n = sym (get_or_default_zero xs i n c.loop-number-test.true) in
    elim c.if-has-wanted.branch [
      | then-has-wanted+in_ok-push w ↦ λ x.
          ap (λ (v : Vec ℕ). is_in v.items x) w.items-is ∙ ap (λ (z : List ℕ). is_in z x) w.in_ok-push.ensures.items
          ∙ kept_more xs c.loop-number.items.items wanted i n c.loop-number-test.true at c.loop-number.invariant (ap (λ b. both_are b c.args.wanted) (sym c.has.ensures) ∙ beq_same c.has.result c.args.wanted w.if-has-wanted.true) x
      | else-has-wanted w ↦ λ x.
          ap (λ (v : Vec ℕ). is_in v.items x) w.items-is
          ∙ kept_less xs c.loop-number.items.items wanted i n c.loop-number-test.true at c.loop-number.invariant (ap (λ b. both_are b c.args.wanted) (sym c.has.ensures) ∙ beq_other c.has.result c.args.wanted w.if-has-wanted.false) x
    ]
