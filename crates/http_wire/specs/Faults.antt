-- What is said of a fault of reading.
use Rattle.std.specs.Prelude.{ℕ, ◌≤◌, Result, IfErr, List, IfSome, Option}
use Rattle.outside_core.specs.Failed.{Rose}
use Rattle.http_wire.specs.Message.{NoneBegins}
use Rattle.http_wire.specs.declared.faults.WireFault.{WireFault}
use Rattle.http_wire.specs.declared.faults.WireFault.TheVariants.{ReadFault, NotAMessage}

-- P of the place, if the fault is that no message begins there
abbrev pub IfNotAMessage : WireFault → (ℕ → Type 0) → Type 0
IfNotAMessage ReadFault P = Unit {0}
IfNotAMessage (NotAMessage place) P = P place

-- P, if the fault is that the source failed
abbrev pub IfReadFault : WireFault → Type 0 → Type 0
IfReadFault ReadFault P = P
IfReadFault (NotAMessage place) P = Unit {0}

-- P of the place, if the answer is that no message begins there
abbrev pub OnNotAMessage : {T : Type 0} → Result T WireFault → (ℕ → Type 0) → Type 0
OnNotAMessage result P = IfErr result (λ fault. IfNotAMessage fault P)

-- P, if the answer is that the source failed
abbrev pub OnReadFault : {T : Type 0} → Result T WireFault → Type 0 → Type 0
OnReadFault result P = IfErr result (λ fault. IfReadFault fault P)

-- where a stream tells its bytes, some are left at this place, and they begin no message that ends in time
abbrev pub NoneBeginsIn : ℕ → Option (List ℕ) → Type 0
NoneBeginsIn place stream = IfSome stream (NoneBegins place)

-- the count of faults didn't fall, and the source failed only where it rose
pub record HasReadCause {T : Type 0} (before now : ℕ) (result : Result T WireFault) : Type 0 where
  pub later : before ≤ now
  pub failed : OnReadFault result (Rose before now)
