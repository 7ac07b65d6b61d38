-- What each status of `knife` says of what was asked of the server, and of what was printed.
use Rattle.std.specs.Prelude.{◌≡◌, ◌≢◌, ◌⊎◌, ℕ, List, Bool, true, false, Option, None, Some, is_some}
use Rattle.outside_core.specs.Disk.{Files}
use Rattle.outside_core.specs.Failed.{Rose}
use Rattle.peer_wire.specs.declared.asks.Whom.{Whom}
use Rattle.talks.specs.declared.halts.Halt.{Halt}
use Rattle.talks.specs.declared.halts.Halt.TheVariants as halt
use Rattle.knife_errands.specs.Words.{errand_in}
use Rattle.knife_errands.specs.declared.errands.Errand.{Errand}
use Rattle.knife_core.specs.Ends.{KnifeSays, HasLinkCause, HasReadCause, HasOutputCause}
use Rattle.knife_core.specs.declared.knife.KnifeEnd.{KnifeEnd}
use Rattle.knife_core.specs.declared.knife.KnifeEnd.TheVariants as end
use Rattle.command_words.specs.Words.{Command, Knife, answer, explain, demo, knife}
use Rattle.chefsite.specs.Courses.{Course, IsUntouched, PeerCourse, IsPeerUntouched}
use Rattle.chefsite.specs.declared.named.Named.{Named}
use Rattle.chefsite.specs.declared.named.Named.TheVariants.{Nothing, File, Request}
use Rattle.chefsite.specs.declared.ended.Ended.{Ended}
use Rattle.chefsite.specs.declared.statuses.Status.{Status}
use Rattle.chefsite.specs.declared.statuses.Status.TheVariants.{Done, Usage, ReadFault, WriteFault, NoMemory, BadReply, Refused, BadFile}

-- whom the server takes `knife` for, by what it is told
abbrev pub whom_of : Knife → Whom
whom_of told = record { org = told.org; caller = told.user; host = told.host; port = told.port }

-- the words are understood: a command, and behind `knife` an errand
abbrev pub is_understood : Option Command → Bool
is_understood None = false
is_understood (Some answer) = true
is_understood (Some (explain file)) = true
is_understood (Some (demo size)) = true
is_understood (Some (knife told)) = is_some (errand_in told.words)

-- the status where a talk halted
abbrev pub halt_status : Halt → Status
halt_status halt.ReadFault = ReadFault
halt_status halt.WriteFault = WriteFault
halt_status halt.NoMemory = NoMemory
halt_status (halt.Unanswered request) = BadReply
halt_status (halt.Malformed request) = BadReply
halt_status (halt.Answered number request) = Refused number

-- and what its note names: the request to which no reply came, or one without its form, or one with another status than
-- those that are expected
abbrev pub halt_named : Halt → Named
halt_named halt.ReadFault = Nothing
halt_named halt.WriteFault = Nothing
halt_named halt.NoMemory = Nothing
halt_named (halt.Unanswered request) = Request request
halt_named (halt.Malformed request) = Request request
halt_named (halt.Answered number request) = Request request

-- the status that an end of `knife` has
abbrev pub end_status : KnifeEnd → Status
end_status end.Done = Done
end_status end.OutputFault = WriteFault
end_status (end.Halted halt) = halt_status halt
end_status end.DiskFault = ReadFault
end_status (end.BadFile name) = BadFile

-- and what its note names
abbrev pub end_named : KnifeEnd → Named
end_named end.Done = Nothing
end_named end.OutputFault = Nothing
end_named (end.Halted halt) = halt_named halt
end_named end.DiskFault = Nothing
end_named (end.BadFile name) = File name

-- no peer was asked anything: the makers couldn't make it, which they counted, or memory was wanting. Nothing was read or printed
pub record Unasked (ended : Ended) (output : Course (List ℕ)) (disk : Course Files) (peer : PeerCourse) : Type 0 where
  pub status : (ended.status ≡ ReadFault) ⊎ (ended.status ≡ NoMemory)
  pub named : ended.named ≡ Nothing
  pub cause : ended.status ≡ ReadFault → Rose peer.unmade_before peer.unmade_after
  pub unfailed : ended.status ≢ ReadFault → peer.unmade_after ≡ peer.unmade_before
  pub unread : IsUntouched disk
  pub unwritten : IsUntouched output
  pub held : peer.new ≡ peer.old

-- the errand was done over the peer, with this end: the requests written are those of its talk, each behind the replies
-- before it, and what is printed, the status and what is named are the end's. A fault comes only where its count rose
pub record Talked (ended : Ended) (whom : Whom) (errand : Errand) (output : Course (List ℕ)) (disk : Course Files) (peer : PeerCourse) : Type 0 where
  pub end : KnifeEnd
  pub status : ended.status ≡ end_status end
  pub named : ended.named ≡ end_named end
  pub says : KnifeSays whom errand disk.old end peer.old.line peer.new.line output.old output.new
  pub link : HasLinkCause peer.old.faults peer.new.faults end
  pub read : HasReadCause disk.faults_before disk.faults_after end
  pub written : HasOutputCause output.faults_before output.faults_after end
  pub files : disk.new ≡ disk.old
  pub count : peer.unmade_after ≡ peer.unmade_before

-- how an errand of `knife` ended
abbrev pub Asked : Ended → Whom → Errand → Course (List ℕ) → Course Files → PeerCourse → Type 0
Asked ended whom errand output disk peer = Unasked ended output disk peer ⊎ Talked ended whom errand output disk peer

-- the words spell no errand: nothing was done
pub record Unspelled (ended : Ended) (output : Course (List ℕ)) (disk : Course Files) (peer : PeerCourse) : Type 0 where
  pub status : ended.status ≡ Usage
  pub named : ended.named ≡ Nothing
  pub unread : IsUntouched disk
  pub unwritten : IsUntouched output
  pub unasked : IsPeerUntouched peer

-- how `knife` ended, by the errand that its words spell, if they spell one
abbrev pub Comes : Ended → Knife → Option Errand → Course (List ℕ) → Course Files → PeerCourse → Type 0
Comes ended told None output disk peer = Unspelled ended output disk peer
Comes ended told (Some errand) output disk peer = Asked ended (whom_of told) errand output disk peer

-- a run of `knife` with this errand ended so
pub record Knifed (ended : Ended) (whom : Whom) (errand : Errand) (input output : Course (List ℕ)) (disk : Course Files) (peer : PeerCourse) : Type 0 where
  -- the requests written are those of the errand's talk, and what is printed and the end are its end's; or nothing was asked
  pub asked : Asked ended whom errand output disk peer
  -- 3: only where a read of the peer or of the disk failed, or no connection could be made
  pub read_cause : ended.status ≡ ReadFault
      → Rose peer.unmade_before peer.unmade_after ⊎ Rose peer.old.faults peer.new.faults ⊎ Rose disk.faults_before disk.faults_after
  -- 4: only where a write to the peer or to the output failed
  pub write_cause : ended.status ≡ WriteFault → Rose peer.old.faults peer.new.faults ⊎ Rose output.faults_before output.faults_after
  -- the input isn't looked at
  pub no_input : IsUntouched input
  -- the files are as they were
  pub kept : disk.new ≡ disk.old
