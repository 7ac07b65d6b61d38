-- What the places so far lead to is less deep.
use Rattle.std.proofs.Common.{◌≡◌, ◌<◌, ℕ, true, get_or}
use Rattle.resource_core.specs.Graph.{leads_at_once}
use Rattle.resource_core.proofs.graph.falls.Given as goal

abbrev pub invariant-loop-place : goal.invariant-loop-place
invariant-loop-place l = (from to : ℕ) → from < l.place → leads_at_once l.nexts from to ≡ true → get_or l.depths to 0 < get_or l.depths from 0
