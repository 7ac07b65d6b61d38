-- What the end of `knife` says.
use Rattle.std.specs.Prelude.{◌≡◌, ◌≤◌, ℕ, List, Option, ⊤}
use Rattle.std.specs.Io.KnownBytes.{append_known, prepend_known}
use Rattle.outside_core.specs.Disk.{Files, IsFile}
use Rattle.outside_core.specs.Failed.{Rose}
use Rattle.outside_core.specs.Sink.{GainsPart}
use Rattle.peer_wire.specs.declared.asks.Whom.{Whom}
use Rattle.talks.specs.Talk.{Line, Goes, end}
use Rattle.talks.specs.Endings.{done, Halts}
use Rattle.talks.specs.Exchanges.{HaltCause}
use Rattle.talks.specs.declared.halts.Halt.{Halt}
use Rattle.knife_errands.specs.declared.errands.Errand.{Errand}
use Rattle.knife_errands.specs.declared.errands.Errand.TheVariants.{One, RunList, FromFile}
use Rattle.knife_core.specs.Table.{KnifeTalk, talk, prints, bad_file}
use Rattle.knife_core.specs.declared.knife.KnifeEnd.{KnifeEnd}
use Rattle.knife_core.specs.declared.knife.KnifeEnd.TheVariants.{Done, OutputFault, Halted, DiskFault, BadFile}

-- the file that an errand names holds this, or isn't there, where the disk tells its files
abbrev pub IsHeld : Option Files → Errand → Option (List ℕ) → Type 0
IsHeld files (One step) held = ⊤
IsHeld files (RunList node change item) held = ⊤
IsHeld files (FromFile kind file) held = IsFile files file held

-- what a link has left to give, and what it has gained
abbrev pub on : Option (List ℕ) → Option (List ℕ) → Line
on left gained = record { left = left; gained = gained }

-- the line before these bytes were read of it
abbrev pub ahead : List ℕ → Line → Line
ahead bytes l = record { left = prepend_known bytes l.left; gained = l.gained }

-- the talk went to its end, which prints this; what was read of the line behind its replies is gone
pub record Printed (whom : Whom) (talk : KnifeTalk) (bytes : List ℕ) (old new : Line) : Type 0 where
  pub more : List ℕ
  pub went : Goes whom talk (prints bytes) old (ahead more new)

-- the talk halted; what was read of the line behind its replies is gone
pub record Halting (whom : Whom) (talk : KnifeTalk) (halt : Halt) (old new : Line) : Type 0 where
  pub more : List ℕ
  pub halted : Halts whom talk halt old (ahead more new)

-- what each end says of a talk, of the line that carried it, and of what the output gained:
-- the text of the talk's end is printed, or the output failed in it; the talk halted, and nothing is printed;
-- the file couldn't be read, or the talk is the end that it is bad: then nothing was written or read
abbrev pub EndSays : Whom → KnifeTalk → KnifeEnd → Line → Line → Option (List ℕ) → Option (List ℕ) → Type 0
EndSays whom talk Done old new before now = (bytes : List ℕ) × Printed whom talk bytes old new × (now ≡ append_known before bytes)
EndSays whom talk OutputFault old new before now = (bytes : List ℕ) × Printed whom talk bytes old new × GainsPart before now bytes
EndSays whom talk (Halted halt) old new before now = Halting whom talk halt old new × (now ≡ before)
EndSays whom talk DiskFault old new before now = (new ≡ old) × (now ≡ before)
EndSays whom talk (BadFile name) old new before now = (talk ≡ end (done (bad_file name))) × (new ≡ old) × (now ≡ before)

-- the requests written are those of the errand's talk, each behind the replies before it, and what is printed and the end are its end's
pub record KnifeSays (whom : Whom) (errand : Errand) (files : Option Files) (end : KnifeEnd) (old new : Line) (before now : Option (List ℕ)) : Type 0 where
  pub held : Option (List ℕ)
  pub is_held : IsHeld files errand held
  pub says : EndSays whom (talk whom errand held) end old new before now

-- where the link's fault is the end, its count rose
abbrev pub LinkCause : ℕ → ℕ → KnifeEnd → Type 0
LinkCause before now Done = ⊤
LinkCause before now OutputFault = ⊤
LinkCause before now (Halted halt) = HaltCause before now halt
LinkCause before now DiskFault = ⊤
LinkCause before now (BadFile name) = ⊤

-- the link's count of faults didn't fall, and rose where its fault is the end
pub record HasLinkCause (before now : ℕ) (end : KnifeEnd) : Type 0 where
  pub later : before ≤ now
  pub rose : LinkCause before now end

-- the disk's count of faults didn't fall, and rose where its fault is the end
pub record HasReadCause (before now : ℕ) (end : KnifeEnd) : Type 0 where
  pub later : before ≤ now
  pub rose : end ≡ DiskFault → Rose before now

-- the output's count of faults didn't fall, and rose where its fault is the end
pub record HasOutputCause (before now : ℕ) (end : KnifeEnd) : Type 0 where
  pub later : before ≤ now
  pub rose : end ≡ OutputFault → Rose before now
