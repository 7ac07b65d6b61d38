use Rattle.std.proofs.Common.{sym, ◌∙◌}
use Rattle.yaml_subset.proofs.MachineLemmas.{run_stops, stops}
use Rattle.yaml_subset.proofs.reader.run_heads.Goals as goal

pub returns-then-not-branch : goal.returns-then-not-branch
returns-then-not-branch c = sym (run_stops _ _ _ _ c.in-Some.ensures.steps.0 (stops _ _ _ c.in_ok-step.ensures c.if-not-branch.true)) ∙ c.loop-mark.invariant
