-- What holds of a result that is a fault.
use Rattle.std.proofs.Common.{◌≡◌, Result, Err}
use Rattle.peer_wire.specs.declared.faults.ReplyFault.{ReplyFault}
use Rattle.peer_wire.specs.declared.faults.ReplyFault.TheVariants.{ReadFault, NotAReply, NoMemory}
use Rattle.peer_wire.specs.Faults.{IfNotAReply, OnNotAReply}

-- what is passed on
pub OnNotAReply-passed : {T P Q : Type 0} (r : Result T ReplyFault) (fault : ReplyFault) → r ≡ Err fault → (P → Q)
    → IfNotAReply fault P → OnNotAReply r Q
OnNotAReply-passed r ReadFault e f p = rw e tt
OnNotAReply-passed r NotAReply e f p = rw e (f p)
OnNotAReply-passed r NoMemory e f p = rw e tt
