-- What each status of `explain` says of the sources file, and of what was written.
use Rattle.std.specs.Prelude.{◌≡◌, ℕ, List, Option, None, Some, option_and_then}
use Rattle.std.specs.Io.KnownBytes.{append_known}
use Rattle.outside_core.specs.Failed.{Rose}
use Rattle.outside_core.specs.Sink.{GainsPart}
use Rattle.outside_core.specs.Disk.{Files, IsFile}
use Rattle.attr_merge.specs.Sources.{layers_in}
use Rattle.attr_merge.specs.Lines.{Explains}
use Rattle.chefsite.specs.declared.statuses.Status.{Status}
use Rattle.chefsite.specs.declared.statuses.Status.TheVariants.{Done, Usage, ReadFault, WriteFault, NoMemory, NotAMessage, BadReply, Refused, BadFile}

-- the file isn't there, or its bytes aren't sources
abbrev pub HasNoSources : Option (List ℕ) → Type 0
HasNoSources found = option_and_then layers_in found ≡ None

-- what the disk tells of the file of this name is no sources file
abbrev pub IsBadFile : Option Files → List ℕ → Type 0
IsBadFile files file = (found : Option (List ℕ)) × IsFile files file found × HasNoSources found

-- these lines explain the bytes that the disk tells of the file of this name
abbrev pub IsExplainedBy : Option Files → List ℕ → List ℕ → Type 0
IsExplainedBy files file lines = (bytes : List ℕ) × IsFile files file (Some bytes) × Explains bytes lines

-- what a status says: `files` are those that the disk tells, `held` and `now` what the output had and has
abbrev pub SaysOfFile : Status → Option Files → List ℕ → Option (List ℕ) → Option (List ℕ) → Type 0
SaysOfFile Done files file held now = (lines : List ℕ) × IsExplainedBy files file lines × (now ≡ append_known held lines)
SaysOfFile Usage files file held now = ⊥
SaysOfFile ReadFault files file held now = now ≡ held
SaysOfFile WriteFault files file held now = (lines : List ℕ) × IsExplainedBy files file lines × GainsPart held now lines
SaysOfFile NoMemory files file held now = now ≡ held
SaysOfFile (NotAMessage place) files file held now = ⊥
SaysOfFile BadReply files file held now = ⊥
SaysOfFile (Refused number) files file held now = ⊥
SaysOfFile BadFile files file held now = IsBadFile files file × (now ≡ held)

-- a fault comes only where its count rose: the disk's in reading, and the output's in writing. At any status but a read
-- fault the disk's count stays, and where nothing was to be written the output's stays
abbrev pub HasFileCause : Status → ℕ → ℕ → ℕ → ℕ → Type 0
HasFileCause Done read_before read_now written_before written_now = read_now ≡ read_before
HasFileCause Usage read_before read_now written_before written_now = ⊥
HasFileCause ReadFault read_before read_now written_before written_now = Rose read_before read_now × (written_now ≡ written_before)
HasFileCause WriteFault read_before read_now written_before written_now = (read_now ≡ read_before) × Rose written_before written_now
HasFileCause NoMemory read_before read_now written_before written_now = (read_now ≡ read_before) × (written_now ≡ written_before)
HasFileCause (NotAMessage place) read_before read_now written_before written_now = ⊥
HasFileCause BadReply read_before read_now written_before written_now = ⊥
HasFileCause (Refused number) read_before read_now written_before written_now = ⊥
HasFileCause BadFile read_before read_now written_before written_now = (read_now ≡ read_before) × (written_now ≡ written_before)
