-- The numbers so far, and the memory for all.
use Rattle.std.specs.Vec.{vec_capacity}
use Rattle.ordered_keys.specs.Nodes.{numbers_in}
use Rattle.ordered_keys.proofs.ItemLemmas.{Growing}
use Rattle.ordered_keys.proofs.arranged.Arranged.grow.Given as goal

abbrev pub invariant-loop-fresh : goal.invariant-loop-fresh
invariant-loop-fresh g l = Growing l.initial.self-inside.items.items l.self-inside.items.items l.self-inside.nodes.items (numbers_in l.initial.self-inside.nodes.items l.initial.self-inside.top) l.self-inside.top l.self-inside.free l.self-inside.room l.initial.self-inside.room (vec_capacity l.self-inside.items) (vec_capacity l.self-inside.nodes) l.fresh l.size
