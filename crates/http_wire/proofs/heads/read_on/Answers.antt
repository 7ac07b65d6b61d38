use Rattle.std.proofs.Common.{refl}
use Rattle.http_wire.proofs.StreamLemmas.{none_in_full}
use Rattle.http_wire.proofs.heads.read_on.Goals as goal

-- the room is full and holds no head
pub returns-then-is_full-clause-none : goal.returns-then-is_full-clause-none
returns-then-is_full-clause-none g c =
    rw c.no_message.ensures
    (refl, none_in_full c.args.room.now.place c.args.room.now.held _ c.if-is_full.ensures c.requires.unfinished)
