-- What is said of a fault of writing a request or of reading a reply.
use Rattle.std.specs.Prelude.{ℕ, ◌≤◌, Result, IfErr}
use Rattle.outside_core.specs.Failed.{Rose}
use Rattle.peer_wire.specs.declared.faults.ReplyFault.{ReplyFault}
use Rattle.peer_wire.specs.declared.faults.ReplyFault.TheVariants.{ReadFault, NotAReply, NoMemory}
use Rattle.peer_wire.specs.declared.faults.WriteFault.{WriteFault}
use Rattle.peer_wire.specs.declared.faults.WriteFault.TheVariants as write

-- P, if the fault is that no reply begins
abbrev pub IfNotAReply : ReplyFault → Type 0 → Type 0
IfNotAReply ReadFault P = Unit {0}
IfNotAReply NotAReply P = P
IfNotAReply NoMemory P = Unit {0}

-- P, if the fault is that the source failed
abbrev pub IfReadFault : ReplyFault → Type 0 → Type 0
IfReadFault ReadFault P = P
IfReadFault NotAReply P = Unit {0}
IfReadFault NoMemory P = Unit {0}

-- P, if the answer is that no reply begins
abbrev pub OnNotAReply : {T : Type 0} → Result T ReplyFault → Type 0 → Type 0
OnNotAReply result P = IfErr result (λ fault. IfNotAReply fault P)

-- P, if the answer is that the source failed
abbrev pub OnReadFault : {T : Type 0} → Result T ReplyFault → Type 0 → Type 0
OnReadFault result P = IfErr result (λ fault. IfReadFault fault P)

-- the count of faults didn't fall, and the source failed only where it rose
pub record HasReadCause {T : Type 0} (before now : ℕ) (result : Result T ReplyFault) : Type 0 where
  pub later : before ≤ now
  pub failed : OnReadFault result (Rose before now)

-- P, if the fault is that the sink failed
abbrev pub IfFailed : WriteFault → Type 0 → Type 0
IfFailed write.Failed P = P
IfFailed write.NoMemory P = Unit {0}

-- P, if the fault is that memory was wanting
abbrev pub IfWantOfMemory : WriteFault → Type 0 → Type 0
IfWantOfMemory write.Failed P = Unit {0}
IfWantOfMemory write.NoMemory P = P

-- P, if the answer is that the sink failed
abbrev pub OnFailed : {T : Type 0} → Result T WriteFault → Type 0 → Type 0
OnFailed result P = IfErr result (λ fault. IfFailed fault P)

-- P, if the answer is that memory was wanting
abbrev pub OnWantOfMemory : {T : Type 0} → Result T WriteFault → Type 0 → Type 0
OnWantOfMemory result P = IfErr result (λ fault. IfWantOfMemory fault P)

-- the count of faults didn't fall, and the sink failed only where it rose
pub record HasWriteCause {T : Type 0} (before now : ℕ) (result : Result T WriteFault) : Type 0 where
  pub later : before ≤ now
  pub failed : OnFailed result (Rose before now)
