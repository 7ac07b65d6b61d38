use Rattle.std.proofs.Common.{◌+◌, ◌↔◌, length}
use Rattle.search_query.specs.Walk.{FitsBehind}
use Rattle.search_query.proofs.walk.fits_behind.Given as goal

-- what is left decides
abbrev pub invariant-positions : goal.invariant-positions
invariant-positions l = FitsBehind l.left l.here ↔ FitsBehind l.signs l.value

abbrev pub decreases-positions : goal.decreases-positions
decreases-positions l = length l.left + length l.here
