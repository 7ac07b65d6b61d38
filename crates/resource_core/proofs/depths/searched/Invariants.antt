-- The places so far are searched.
use Rattle.std.proofs.Common.{◌≡◌, length}
use Rattle.resource_core.specs.Searching.{AreSearched}
use Rattle.resource_core.proofs.depths.searched.Given as goal

abbrev pub invariant-loop-place : goal.invariant-loop-place
invariant-loop-place l = (length l.cycles.items ≡ l.place) × (length l.counts.items ≡ l.place) × AreSearched l.nexts l.place l.cycles.items l.counts.items
