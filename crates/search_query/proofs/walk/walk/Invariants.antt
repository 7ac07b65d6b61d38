use Rattle.std.proofs.Common.{◌≡◌, length}
use Rattle.search_query.specs.Walk.{walk}
use Rattle.search_query.proofs.walk.walk.Given as goal

-- what is left decides
abbrev pub invariant-loop-left : goal.invariant-loop-left
invariant-loop-left l = walk l.left l.here ≡ walk l.signs l.value

abbrev pub decreases-loop-left : goal.decreases-loop-left
decreases-loop-left l = length l.left
