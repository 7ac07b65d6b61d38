-- The places so far are less deep.
use Rattle.std.proofs.Common.{◌≡◌, ◌<◌, ℕ, true, take, get_or}
use Rattle.resource_core.specs.Searching.{is_among}
use Rattle.resource_core.proofs.graph.are_below.Given as goal

abbrev pub invariant-loop-place : goal.invariant-loop-place
invariant-loop-place l = (t : ℕ) → is_among (take l.place-index l.places) t ≡ true → get_or l.depths t 0 < l.depth
