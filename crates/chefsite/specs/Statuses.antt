-- The numbers of the statuses.
use Rattle.std.specs.Prelude.{ℕ}
use Rattle.chefsite.specs.declared.statuses.Status.{Status}
use Rattle.chefsite.specs.declared.statuses.Status.TheVariants.{Done, Usage, ReadFault, WriteFault, NoMemory, NotAMessage, BadReply, Refused, BadFile}

-- the number of a status
abbrev pub code : Status → ℕ
code Done = 0
code Usage = 2
code ReadFault = 3
code WriteFault = 4
code NoMemory = 7
code (NotAMessage place) = 8
code BadReply = 8
code (Refused status) = 12
code BadFile = 13
