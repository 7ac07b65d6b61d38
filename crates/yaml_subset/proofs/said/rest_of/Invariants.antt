use Rattle.std.proofs.Common.{◌≡◌, length}
use Rattle.yaml_subset.specs.Said.{rest_of}
use Rattle.yaml_subset.proofs.said.rest_of.Given as goal

abbrev pub invariant-loop-first : goal.invariant-loop-first
invariant-loop-first l = rest_of l.rest ≡ rest_of l.text

abbrev pub decreases-loop-first : goal.decreases-loop-first
decreases-loop-first l = length l.rest
