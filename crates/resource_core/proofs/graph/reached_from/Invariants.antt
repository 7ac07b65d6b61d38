-- The search so far; each turn takes one from the list, and puts one on it only where it sets a flag.
use Rattle.std.proofs.Common.{◌+◌, ◌*◌, length}
use Rattle.resource_core.specs.Searching.{Searches, unset}
use Rattle.resource_core.proofs.graph.reached_from.Given as goal

abbrev pub invariant-loop-place : goal.invariant-loop-place
invariant-loop-place l = Searches l.nexts l.start l.reached.items l.todo.items

abbrev pub decreases-loop-place : goal.decreases-loop-place
decreases-loop-place l = 2 * unset l.reached.items + length l.todo.items
