-- The number with which the process ends.
use Rattle.std.specs.Prelude.{◌≡◌, ◌↔◌, ℕ, List, false}
use Rattle.std.specs.Process.{exit_status}
use Rattle.std.specs.declared.io.ErrorKind.{ErrorKind}
use Rattle.std.specs.declared.io.ErrorKind.TheVariants.{InvalidData}
use Rattle.std.specs.declared.process.ExitCode.{ExitCode}
use Rattle.outside_core.specs.Disk.{Files}
use Rattle.chefsite.specs.declared.statuses.Status.{Status}
use Rattle.chefsite.specs.declared.statuses.Status.TheVariants.{Usage, NoMemory}
use Rattle.chefsite.specs.Statuses.{code}
use Rattle.command_words.specs.Words.{command_of}
use Rattle.chefsite.specs.Courses.{Course, PeerCourse}
use Rattle.chefsite.specs.Knifing.{is_understood}
use Rattle.chefsite.specs.declared.named.Named.{Named}
use Rattle.chefsite.specs.Notes.{IsNoted}
use Rattle.chefsite.specs.Theorems.{asks_a_server, named_of, Ran}

-- the process ends with the number of this status
abbrev pub Ends : ExitCode → Status → Type 0
Ends exit status = exit_status exit ≡ code status

-- it ends with the number of a status, whose line was noted, and 2 only where the words aren't understood
pub record EndsNoted (exit : ExitCode) (words : List (List ℕ)) (notes : Course (List ℕ)) : Type 0 where
  pub status : Status
  pub number : Ends exit status
  pub usage : status ≡ Usage → is_understood (command_of words) ≡ false
  pub named : Named
  pub names : asks_a_server (command_of words) ≡ false → named ≡ named_of status (command_of words)
  pub noted : IsNoted status named notes.old notes.new notes.faults_before notes.faults_after

-- it ends with the number of the status with which a run of these words ended
pub record EndsAsRan {N : Type 0} (exit : ExitCode) (words : List (List ℕ)) (input output notes : Course (List ℕ)) (disk : Course Files) (peer : PeerCourse) (before after : N) : Type 0 where
  pub status : Status
  pub number : Ends exit status
  pub ran : Ran status words input output notes disk peer before after

-- where the system gave no arguments, for this kind of error: one of them isn't text, or memory was wanting for them
abbrev pub IsToldFor : ErrorKind → Status → Type 0
IsToldFor kind status = ((status ≡ Usage) ↔ (kind ≡ InvalidData)) × ((status ≡ NoMemory) ↔ ¬ (kind ≡ InvalidData))
