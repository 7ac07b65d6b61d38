use Rattle.std.proofs.Common.{Vec, Global, ap, get_or, subst, ◌∙◌}
use Rattle.dep_solver.specs.declared.conflicts.Term.{Term}
use Rattle.dep_solver.specs.Conflicts.{HasAll}
use Rattle.dep_solver.proofs.ConflictLemmas.{all_push, others_end, others_more, read_any}
use Rattle.dep_solver.proofs.conflicts.copy_others.Goals.{then-other-cookbook+in_ok-push, else-other-cookbook}
use Rattle.dep_solver.proofs.conflicts.copy_others.Goals as goal

pub loop-other-preserved : goal.loop-other-preserved
loop-other-preserved c = elim c.if-other-cookbook.branch [
  | then-other-cookbook+in_ok-push w ↦
      others_more c.args.cookbook c.args.others.now c.loop-other.other-index (get_or c.args.others.now c.loop-other.other-index (record { cookbook = 0; values = 0 })) c.args.terms.now.items c.loop-other.terms.items c.if-other-cookbook.terms.items c.loop-other-test.true
      (read_any c.args.others.now c.loop-other.other-index (record { cookbook = 0; values = 0 }) c.loop-other-test.true)
      (λ taken all.
      let both = all_push taken c.loop-other.terms.items c.if-other-cookbook.terms.items _ (ap (λ (v : Vec Term Global). v.items) w.terms-is ∙ w.in_ok-push.ensures.items) all in
      (both.0, λ _. both.1))
      c.loop-other.invariant
  | else-other-cookbook w ↦
      others_more c.args.cookbook c.args.others.now c.loop-other.other-index (get_or c.args.others.now c.loop-other.other-index (record { cookbook = 0; values = 0 })) c.args.terms.now.items c.loop-other.terms.items c.if-other-cookbook.terms.items c.loop-other-test.true
      (read_any c.args.others.now c.loop-other.other-index (record { cookbook = 0; values = 0 }) c.loop-other-test.true)
      (λ taken all. (subst (λ (v : Vec Term Global). HasAll taken v.items) w.terms-is all, λ apart. absurd (apart w.if-other-cookbook.false)))
      c.loop-other.invariant
]

pub returns : goal.returns
returns c = others_end c.args.cookbook c.args.others.now c.loop-other.other-index c.args.terms.now.items c.loop-other.terms.items c.loop-other-test.false c.loop-other.invariant
