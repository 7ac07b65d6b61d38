use Rattle.std.specs.Prelude.{◌≡◌}
use Rattle.sandboxes.specs.Files.{holding_of, spare_of, OthersStay}
use Rattle.org_core.specs.FileMoves.{files_after}
use Rattle.org_core.specs.Moves.{after_moves}
use Rattle.org_core.specs.Rooms.{HasRoom}
use Rattle.org_core.specs.States.{state_from, IsNobody}
use Rattle.org_core.proofs.org_state.make_all.Given as goal

-- what is left of the moves leads to where all of them lead, and there is room for it
abbrev pub invariant-loop-one : goal.invariant-loop-one
invariant-loop-one l =
    (after_moves l.one-iterator.rest.items (state_from l.there l.objects l.groups l.shelves) ≡ after_moves l.fn.moves (state_from l.fn.there l.fn.objects l.fn.groups l.fn.shelves))
    × HasRoom l.one-iterator.rest.items l.objects l.groups l.shelves (spare_of l.files l.org)
    × IsNobody l.there l.objects l.groups l.shelves
    × (files_after l.org l.one-iterator.rest.items (state_from l.there l.objects l.groups l.shelves) (holding_of l.files l.org)
    ≡ files_after l.org l.fn.moves (state_from l.fn.there l.fn.objects l.fn.groups l.fn.shelves) (holding_of l.fn.files l.org))
    × OthersStay l.org l.fn.files l.files
