use Rattle.std.proofs.Common.{◌∙◌}
use Rattle.dep_solver.proofs.ConflictLemmas.{adds_read}
use Rattle.dep_solver.proofs.conflicts.add_term.Goals as goal

pub returns-then-index-term : goal.returns-then-index-term
returns-then-index-term c =
    adds_read c.args.terms.now c.loop-index.terms c.loop-index.index c.index_mut.result.now c.index.result.now c.args.term c.loop-index.invariant c.len-index-end.result (c.len-index-end.ensures ∙ c.args.terms.now.ok.0) c.loop-index-test.true
    c.index_mut.ensures.value c.index.ensures c.if-index-term.true
