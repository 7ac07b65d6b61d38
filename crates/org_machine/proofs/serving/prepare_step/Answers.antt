-- What was decided is done with room for it.
use Rattle.org_core.specs.FullStates.{full_in}
use Rattle.org_machine.specs.Steps.{decided}
use Rattle.org_machine.proofs.OrderlyLemmas.{decided_orderly, prepared_orderly}
use Rattle.org_machine.proofs.PreparedLemmas.{prepared_with_room}
use Rattle.org_machine.proofs.FindingLemmas.{no_changes, no_room_for_none}
use Rattle.org_machine.proofs.serving.prepare_step.Goals as goal

pub returns-in-Ok-clause-done : goal.returns-in-Ok-clause-done
returns-in-Ok-clause-done g c =
    prepared_with_room _ c.in-Ok.prepared c.with_room.result (decided c.args.request.now (full_in c.args.state.now c.args.files.now)) c.with_room.new.state _ c.args.steps.now c.decided.new.steps
    c.in-Ok.ensures.done c.in-Ok.ensures.looked c.with_room.ensures.room c.with_room.ensures.done

pub with_room-requires : goal.with_room-requires
with_room-requires g c =
    prepared_orderly c.in-Ok.prepared (decided c.args.request.now (full_in c.args.state.now c.args.files.now)) (decided_orderly c.args.request.now (full_in c.args.state.now c.args.files.now)) c.in-Ok.ensures.done

pub returns-in-Err-Refused-clause-changes : goal.returns-in-Err-Refused-clause-changes
returns-in-Err-Refused-clause-changes g c = no_changes _ _ _ _ _ c.stays.ensures.moves c.stays.ensures.changes

pub returns-in-Err-NoMemory-clause-changes : goal.returns-in-Err-NoMemory-clause-changes
returns-in-Err-NoMemory-clause-changes g c = no_changes _ _ _ _ _ c.stays-in-Err-NoMemory.ensures.moves c.stays-in-Err-NoMemory.ensures.changes

pub returns-in-Err-Refused-clause-finder_room : goal.returns-in-Err-Refused-clause-finder_room
returns-in-Err-Refused-clause-finder_room g c = no_room_for_none _ _ c.stays.ensures.changes

pub returns-in-Err-NoMemory-clause-finder_room : goal.returns-in-Err-NoMemory-clause-finder_room
returns-in-Err-NoMemory-clause-finder_room g c = no_room_for_none _ _ c.stays-in-Err-NoMemory.ensures.changes
