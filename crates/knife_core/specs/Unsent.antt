-- What is sent of the file that an errand names, or why nothing is.
use Rattle.std.specs.Prelude.{◌≡◌, ◌≤◌, ℕ, List, Option, Some, None, Result, Ok, Err, ⊤, option_and_then}
use Rattle.outside_core.specs.Disk.{Files, IsFile}
use Rattle.outside_core.specs.Failed.{Rose}
use Rattle.peer_wire.specs.declared.asks.Whom.{Whom}
use Rattle.knife_errands.specs.Files.{sent_of}
use Rattle.knife_errands.specs.declared.errands.FileKind.{FileKind}
use Rattle.knife_errands.specs.declared.files.Sent.{Sent}
use Rattle.talks.specs.declared.halts.Halt.TheVariants as halt
use Rattle.knife_core.specs.declared.files.Unsent.{Unsent}
use Rattle.knife_core.specs.declared.files.Unsent.TheVariants as unsent
use Rattle.knife_core.specs.declared.knife.KnifeEnd.{KnifeEnd}
use Rattle.knife_core.specs.declared.knife.KnifeEnd.TheVariants as end

-- what was made of what the file holds, if it is there
abbrev pub IsSentOf : Whom → FileKind → List ℕ → Option (List ℕ) → Result Sent Unsent → Type 0
IsSentOf whom kind file held (Ok sent) = option_and_then (sent_of kind whom) held ≡ Some sent
IsSentOf whom kind file held (Err unsent.DiskFault) = ⊤
IsSentOf whom kind file held (Err unsent.NoMemory) = ⊤
IsSentOf whom kind file held (Err (unsent.BadFile name)) = (option_and_then (sent_of kind whom) held ≡ None) × (name ≡ file)

-- what a file of the disk holds, and what was made of it
pub record SentIn (whom : Whom) (kind : FileKind) (file : List ℕ) (files : Option Files) (result : Result Sent Unsent) : Type 0 where
  pub held : Option (List ℕ)
  pub is_file : IsFile files file held
  pub sent : IsSentOf whom kind file held result

-- the disk's count of faults didn't fall, and rose where the disk failed
pub record HasUnsentCause (before now : ℕ) (result : Result Sent Unsent) : Type 0 where
  pub later : before ≤ now
  pub rose : result ≡ Err unsent.DiskFault → Rose before now

-- the file of this name is bad, or memory was wanting
abbrev pub IsBad : List ℕ → Unsent → Type 0
IsBad file unsent.DiskFault = ⊥
IsBad file unsent.NoMemory = ⊤
IsBad file (unsent.BadFile name) = name ≡ file

-- the end of `knife` where nothing is sent
abbrev pub unsent_end : Unsent → KnifeEnd
unsent_end unsent.DiskFault = end.DiskFault
unsent_end unsent.NoMemory = end.Halted halt.NoMemory
unsent_end (unsent.BadFile name) = end.BadFile name
