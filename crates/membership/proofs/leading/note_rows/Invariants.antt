use Rattle.std.proofs.Common.{◌≡◌, ◌*◌, length, vec_capacity}
use Rattle.membership.specs.Leading.{Notes, listing}
use Rattle.membership.proofs.leading.note_rows.Given as goal

abbrev pub invariant-loop-from : goal.invariant-loop-from
invariant-loop-from l = Notes (length l.items.entries) (listing l.items.entries) (l.from * length l.items.entries) l.cells.items × (vec_capacity l.cells ≡ vec_capacity l.initial.cells)
