use Rattle.std.proofs.Common.{◌-◌, subst, sym}
use Rattle.httparse.specs.Spans.{RequestOverflows}
use Rattle.http_wire.specs.Message.{BeginsNone, last_place}
use Rattle.http_wire.specs.Faults.{NoneBeginsIn}
use Rattle.http_wire.proofs.FaultLemmas.{OnReadFault-always}
use Rattle.http_wire.proofs.StreamLemmas.{none_in_overflow, BeginsNone-nil}
use Rattle.http_wire.proofs.heads.read_head.Goals as goal

-- nothing was read
pub returns-in_err-has_more-clause-partial : goal.returns-in_err-has_more-clause-partial
returns-in_err-has_more-clause-partial g c =
    OnReadFault-always c.from_residual.result
    (subst (BeginsNone (last_place - c.args.room.now.place)) (sym c.in_err-has_more.ensures.failed) (BeginsNone-nil _))

-- the head is refused, whatever follows
pub returns-in-Err-clause-none : goal.returns-in-Err-clause-none
returns-in-Err-clause-none g c =
    let seen : RequestOverflows 64 c.held.result.now =
    subst (λ n. RequestOverflows n c.held.result.now) c.more.invariant.headers c.in-Err.ensures.no_room in
    let over : RequestOverflows 64 c.more.room.held = subst (RequestOverflows 64) c.held.ensures.bytes seen in
    let none = none_in_overflow c.more.room.place c.more.room.held _ c.more.invariant.begun over in
    rw c.no_message.ensures
    (c.more.invariant.place, subst (NoneBeginsIn c.more.room.place) c.more.invariant.kept none)
