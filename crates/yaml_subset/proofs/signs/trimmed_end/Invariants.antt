use Rattle.std.proofs.Common.{◌≡◌, ◌≤◌, drop}
use Rattle.yaml_subset.specs.Signs.{ended}
use Rattle.yaml_subset.proofs.signs.trimmed_end.Given as goal

abbrev pub invariant-loop-index : goal.invariant-loop-index
invariant-loop-index l = (ended l.end l.index (drop l.index l.text) ≡ ended 0 0 l.text) × (l.end ≤ l.index)
