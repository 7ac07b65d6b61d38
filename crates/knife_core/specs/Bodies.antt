-- Why a talk halts at a body of which nothing was read.
use Rattle.peer_wire.specs.declared.asks.Ask.{Ask}
use Rattle.talks.specs.declared.halts.Halt.{Halt}
use Rattle.talks.specs.declared.halts.Halt.TheVariants as halt
use Rattle.knife_errands.specs.declared.faults.BodyFault.{BodyFault}
use Rattle.knife_errands.specs.declared.faults.BodyFault.TheVariants as body

-- the reply to this request hasn't its form, or memory was wanting
abbrev pub halt_of : Ask → BodyFault → Halt
halt_of request body.Malformed = halt.Malformed request
halt_of request body.NoMemory = halt.NoMemory
