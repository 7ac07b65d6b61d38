use Rattle.std.proofs.Common.{List, ℕ, get_or, subst, sym}
use Rattle.dep_solver.specs.Conflicts.{AreClash}
use Rattle.dep_solver.proofs.ClashLemmas.{clash_conflict}
use Rattle.dep_solver.proofs.ConflictLemmas.{learned_more}
use Rattle.dep_solver.proofs.clashes.add_clashes.Goals as goal

pub loop-values-preserved : goal.loop-values-preserved
loop-values-preserved c =
    learned_more c.args.universe.now c.args.rules.now c.args.roots.now c.loop-values.known.items c.push.new.self.items (record { terms = c.in_ok-terms.terms }) c.loop-values.invariant
    (clash_conflict c.args.universe.now c.args.rules.now c.args.roots.now c.args.index c.args.other c.in-Some.cookbook.now c.in_ok-masks.masks.items (get_or c.as_slice-values-items.result.now c.loop-values.values-index 0) c.in_ok-terms.terms.items
    (sym c.in-Some.ensures) c.in_ok-masks.ensures.length c.in_ok-masks.ensures.masks
    (subst (λ (ms : List ℕ). AreClash ms c.args.index c.args.other (get_or c.as_slice-values-items.result.now c.loop-values.values-index 0) c.in_ok-terms.terms.items) c.as_slice-in-loop-values.ensures.value c.in_ok-terms.ensures))
    c.in_ok-push.ensures.items
