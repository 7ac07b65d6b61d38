use Rattle.std.proofs.Common.{◌-◌, length, get_or, min}
use Rattle.dep_solver.proofs.ClashLemmas.{LeavesOne, leaves_none, or_adds, or_keeps, same_bits}
use Rattle.dep_solver.proofs.ConflictLemmas.{read_any}
use Rattle.dep_solver.proofs.ValueLemmas.{bits_all, bits_more}
use Rattle.dep_solver.proofs.clashes.leaving.Goals.{then-masks-index-ne0, else-masks-index-ne0}
use Rattle.dep_solver.proofs.clashes.leaving.Goals as goal

pub loop-index-preserved : goal.loop-index-preserved
loop-index-preserved c = elim c.if-masks-index-ne0.branch [
  | then-masks-index-ne0 w ↦ (
    or_keeps c.loop-index.found w.only-found.result c.if-masks-index-ne0.found 0 w.found-is c.loop-index.invariant.0,
    bits_more (LeavesOne c.args.values) c.args.masks.now c.loop-index.index (get_or c.args.masks.now c.loop-index.index 0) c.loop-index.found c.if-masks-index-ne0.found c.loop-index-test.true
        (read_any c.args.masks.now c.loop-index.index 0 c.loop-index-test.true) c.loop-index.invariant.1
        (λ n. or_keeps c.loop-index.found w.only-found.result c.if-masks-index-ne0.found n w.found-is)
        (λ _. or_adds c.loop-index.found w.only-found.result c.if-masks-index-ne0.found w.release_value.result (min (length c.args.masks.now - c.loop-index.index) 63) w.found-is w.only-found.ensures w.release_value.ensures.value),
  )
  | else-masks-index-ne0 w ↦ (
    same_bits c.loop-index.found c.if-masks-index-ne0.found 0 w.found-is c.loop-index.invariant.0,
    bits_more (LeavesOne c.args.values) c.args.masks.now c.loop-index.index (get_or c.args.masks.now c.loop-index.index 0) c.loop-index.found c.if-masks-index-ne0.found c.loop-index-test.true
        (read_any c.args.masks.now c.loop-index.index 0 c.loop-index-test.true) c.loop-index.invariant.1
        (λ n. same_bits c.loop-index.found c.if-masks-index-ne0.found n w.found-is)
        (λ one. absurd (leaves_none (get_or c.args.masks.now c.loop-index.index 0) c.args.values c.loop-index.index w.if-masks-index-ne0.false one)),
  )
]

pub returns-clause-leaves : goal.returns-clause-leaves
returns-clause-leaves c = λ index mask value stands below has one.
    bits_all (LeavesOne c.args.values) c.args.masks.now c.loop-index.index c.loop-index.found c.loop-index-test.false c.loop-index.invariant.1 index mask stands (value, below, has, one)
