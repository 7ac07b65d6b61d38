-- The places so far were gone on to.
use Rattle.std.proofs.Common.{take}
use Rattle.resource_core.specs.Searching.{GoesOn}
use Rattle.resource_core.proofs.graph.go_on.Given as goal

abbrev pub invariant-loop-next : goal.invariant-loop-next
invariant-loop-next l = GoesOn (take l.next-index l.nexts) l.fn.reached.items l.fn.todo.items l.reached.items l.todo.items
