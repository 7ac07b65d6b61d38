use Rattle.std.proofs.Common.{◌≡◌, ◌+◌, ◌*◌, length, vec_capacity}
use Rattle.membership.specs.Leading.{Notes, listing}
use Rattle.membership.proofs.leading.note_row.Given as goal

abbrev pub invariant-loop-to : goal.invariant-loop-to
invariant-loop-to l = Notes (length l.items.entries) (listing l.items.entries) (l.from * length l.items.entries + l.to) l.cells.items × (vec_capacity l.cells ≡ vec_capacity l.initial.cells)
