-- What holds of a result that is a fault.
use Rattle.std.proofs.Common.{◌≡◌, ℕ, Result, Ok, Err}
use Rattle.http_wire.specs.declared.faults.WireFault.{WireFault}
use Rattle.http_wire.specs.declared.faults.WireFault.TheVariants.{ReadFault, NotAMessage}
use Rattle.http_wire.specs.Faults.{IfReadFault, OnReadFault, IfNotAMessage, OnNotAMessage}

-- what holds anyhow holds where the source failed
pub OnReadFault-always : {T P : Type 0} (r : Result T WireFault) → P → OnReadFault r P
OnReadFault-always (Ok x) p = tt
OnReadFault-always (Err ReadFault) p = p
OnReadFault-always (Err (NotAMessage place)) p = tt

-- a fault that is passed on
pub OnReadFault-passed : {T P Q : Type 0} (r : Result T WireFault) (fault : WireFault) → r ≡ Err fault → (P → Q)
    → IfReadFault fault P → OnReadFault r Q
OnReadFault-passed r ReadFault e f p = rw e (f p)
OnReadFault-passed r (NotAMessage place) e f p = rw e tt

-- a place that is passed on
pub OnNotAMessage-passed : {T : Type 0} {P Q : ℕ → Type 0} (r : Result T WireFault) (fault : WireFault) → r ≡ Err fault
    → ((place : ℕ) → P place → Q place) → IfNotAMessage fault P → OnNotAMessage r Q
OnNotAMessage-passed r ReadFault e f p = rw e tt
OnNotAMessage-passed r (NotAMessage place) e f p = rw e (f place p)
