use Rattle.std.proofs.Common.{◌≡◌, ℕ, get_or, subst}
use Rattle.std.specs.Int.{bit_at}
use Rattle.dep_solver.specs.declared.conflicts.Term.{Term}
use Rattle.dep_solver.proofs.ConflictLemmas.{allows_more, narrows_to, read_any}
use Rattle.dep_solver.proofs.EachLemmas.{each_all}
use Rattle.dep_solver.proofs.conflicts.values_of.Goals.{then-term-cookbook, else-term-cookbook}
use Rattle.dep_solver.proofs.conflicts.values_of.Goals as goal

pub loop-term-preserved : goal.loop-term-preserved
loop-term-preserved c = elim c.if-term-cookbook.branch [
  | then-term-cookbook w ↦
      allows_more c.args.terms.now c.args.cookbook c.loop-term.term-index (get_or c.args.terms.now c.loop-term.term-index (record { cookbook = 0; values = 0 })) c.loop-term.values c.if-term-cookbook.values c.loop-term-test.true
      (read_any c.args.terms.now c.loop-term.term-index (record { cookbook = 0; values = 0 }) c.loop-term-test.true)
      (narrows_to c.loop-term.values (get_or c.args.terms.now c.loop-term.term-index (record { cookbook = 0; values = 0 })).values c.if-term-cookbook.values _ w.values-is) c.loop-term.invariant
  | else-term-cookbook w ↦
      allows_more c.args.terms.now c.args.cookbook c.loop-term.term-index (get_or c.args.terms.now c.loop-term.term-index (record { cookbook = 0; values = 0 })) c.loop-term.values c.if-term-cookbook.values c.loop-term-test.true
      (read_any c.args.terms.now c.loop-term.term-index (record { cookbook = 0; values = 0 }) c.loop-term-test.true)
      (λ value bit. (subst (λ (n : ℕ). bit_at n value ≡ 1) w.values-is bit, λ same. absurd (w.if-term-cookbook.false same))) c.loop-term.invariant
]

pub returns : goal.returns
returns c = λ value small bit.
    each_all (λ (t : Term). t.cookbook ≡ c.args.cookbook → bit_at t.values value ≡ 1) c.args.terms.now c.loop-term.term-index c.loop-term-test.false (c.loop-term.invariant value small bit)
