-- The numbers so far, and the memory for all.
use Rattle.std.proofs.Common.{length}
use Rattle.std.specs.Vec.{vec_capacity}
use Rattle.search_index.proofs.NumberedLemmas.{Growing}
use Rattle.search_index.proofs.numbered_texts.NumberedTexts.grow.Given as goal

abbrev pub invariant-loop-fresh : goal.invariant-loop-fresh
invariant-loop-fresh l = Growing l.initial.self-inside.items.items l.self-inside.items.items l.self-inside.free.items (length l.initial.self-inside.free.items) (vec_capacity l.self-inside.items) (vec_capacity l.self-inside.free) l.fresh l.size
