use Rattle.std.proofs.Common.{◌≡◌, length}
use Rattle.search_query.specs.Matching.{without_rest}
use Rattle.search_query.proofs.walk.without_rest.Given as goal

-- what is left decides
abbrev pub invariant-loop-here : goal.invariant-loop-here
invariant-loop-here l = without_rest l.here ≡ without_rest l.text

abbrev pub decreases-loop-here : goal.decreases-loop-here
decreases-loop-here l = length l.here
