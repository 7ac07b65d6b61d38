-- The isolation theorem. Begin here.
--
-- For every stream of requests, however the organisations' requests interleave, the bytes answered to each
-- organisation are those of a small machine given that organisation's requests alone, and each request is
-- permitted exactly by the organisation's access lists.
--
-- It is part of `Answered` below, which is part of `Ran`, the one contract of `run` and `once`. The words that it
-- stands on:
--
--   Splits, place_after        http_wire/specs/Splits.antt      how a stream of bytes splits into messages and a rest
--   request_of                 http_wire/specs/Requests.antt    the request that a message spells
--   reply_text                 http_wire/specs/Replies.antt     the bytes of a reply
--   own                        org_machine/specs/Alone.antt     an organisation's own exchanges, in order
--   replies_alone              org_machine/specs/Alone.antt     the small machine: the replies to these requests
--   RunsAlone, Alone           org_machine/specs/Alone.antt     the replies are the small machine's: to one organisation, to each
--   mark_of, answer, after     org_machine/specs/Marks.antt     what befell a request, the reply to it and the state after it
--   step                       org_machine/specs/Steps.antt     one request of one organisation
--   FullState                  org_core/specs/FullStates.antt   the state of an organisation: what it holds, with its files and sandboxes
--   ArePermittedExactly        org_machine/specs/Permitting.antt  403 comes exactly where the lists don't permit what a request needs
--   Permitted                  access_lists/specs/Permitted.antt  who may do what
--   bytes_to, bytes_alone      specs/Isolation.antt             the bytes answered to an organisation, and the small machine's
--   Answers                    specs/Isolation.antt             one reply to each message, and to each organisation the bytes that it would get alone
--   IsAnswered and its kin     specs/Isolation.antt             what a run read, what it answered and what it wrote
--   TellsRest, IsComplete      specs/Endings.antt               what a status tells of the rest, and what leaves no other
--   command_of                 command_words/specs/Words.antt   the command that the words are
--   IsNoted                    specs/Notes.antt                 the line of a status
--   Ends                       specs/Exits.antt                 the number with which the process ends
--
-- What `explain` prints is told by `Explained`, which stands on these:
--
--   Explains, lines            attr_merge/specs/Lines.antt      the lines that explain the bytes of a sources file
--   layers_in                  attr_merge/specs/Sources.antt    the layers that these bytes give, if they have the format
--   IsFile                     outside_core/specs/Disk.antt     the file of a name, where the disk tells its files
--   IsBadFile, IsExplainedBy   specs/Explaining.antt            what the disk tells of a file is no sources file; these lines explain it
--
-- What `demo` prints is told by `Demonstrated`, which stands on these:
--
--   demo_requests              demo_requests/specs/DemoRequests.antt  the requests of a demo of a size
--   lines                      demo_requests/specs/Lines.antt   the five lines that tell what replies come to
--   Demonstrates, IsToldOf     specs/Demonstrating.antt         one reply to each request, and to each organisation those that it would get alone; these are the lines of such replies
--
-- What `knife` asks and prints is told by `Knifed`, which stands on these:
--
--   errand_in                  knife_errands/specs/Words.antt   the errand that words spell
--   KnifeSays, talk            knife_core/specs/Ends.antt, Table.antt  the requests written are the talk's, each behind the replies before it; what is printed and the end are its end's
--   Goes, Stops                talks/specs/Talk.antt            the exchanges that a line carried, whole or cut short
--   end_status, end_named      specs/Knifing.antt               the status of an end, and what its note names
--
-- The limits of these clauses:
--
-- * What an input, an output or notes hold is told only where these tell it, as a list in memory does. Standard
--   input and output tell nothing: over them nothing is said of what they hold, and a fault comes only where its
--   count rose.
-- * Any request may be answered 500, and any run may end with 7, for want of memory: no clause ties that to an
--   allocation that was refused. Tests and checks show that it isn't so with ample memory.
-- * A message that is none ends the stream for everyone, and so does a read or a write that fails: what follows
--   isn't answered to any organisation.
-- * The operator's listing of organisations tells who is there, and is of no organisation. That the header which
--   names the caller is true is the promise of the front that sets it.
-- * Time, memory used, and that a reader gets what was written.
use Rattle.std.specs.Prelude.{◌≡◌, ◌≢◌, ◌⊎◌, ℕ, List, Bool, true, false, Option, None, Some}
use Rattle.std.specs.Io.KnownBytes.{append_known}
use Rattle.outside_core.specs.Failed.{Rose}
use Rattle.outside_core.specs.Sink.{GainsPart}
use Rattle.outside_core.specs.Disk.{Files}
use Rattle.chefsite.specs.declared.statuses.Status.{Status}
use Rattle.chefsite.specs.declared.statuses.Status.TheVariants.{Done, Usage, ReadFault, WriteFault, NoMemory, NotAMessage, BadReply, Refused, BadFile}
use Rattle.chefsite.specs.declared.named.Named.{Named}
use Rattle.chefsite.specs.declared.named.Named.TheVariants.{Nothing, File}
use Rattle.chefsite.specs.declared.ended.Ended.{Ended}
use Rattle.command_words.specs.Words.{Command, Knife, answer, explain, demo, knife, command_of}
use Rattle.knife_errands.specs.Words.{errand_in}
use Rattle.knife_errands.specs.declared.errands.Errand.{Errand}
use Rattle.chefsite.specs.Courses.{Course, IsUntouched, PeerCourse, IsPeerUntouched}
use Rattle.chefsite.specs.Isolation.{IsAnswered, IsAnsweredToRest, IsAnsweredUpTo, IsCutShort}
use Rattle.chefsite.specs.Endings.{TellsRest, IsComplete}
use Rattle.chefsite.specs.Explaining.{HasNoSources, IsBadFile, IsExplainedBy}
use Rattle.chefsite.specs.Demonstrating.{IsToldOf}
use Rattle.chefsite.specs.Knifing.{is_understood, whom_of, Knifed}
use Rattle.chefsite.specs.Notes.{IsNoted}

-- a run of `answer` ended with this status
pub record Answered (status : Status) (input output : Course (List ℕ)) (disk : Course Files) : Type 0 where
  -- 0: the input was read to its end, and each request of it was answered as if its organisation were alone
  pub done : status ≡ Done → IsAnswered input.old input.new output.old output.new
  -- 3: the whole messages of the bytes taken were answered so
  pub read_fault : status ≡ ReadFault → IsAnsweredUpTo input.old input.new output.old output.new
  -- and only where a read failed
  pub read_cause : status ≡ ReadFault → Rose input.faults_before input.faults_after
  -- 4: some first messages were answered so, and a front of the replies was written
  pub write_fault : status ≡ WriteFault → IsCutShort input.old output.old output.new
  -- and only where a write failed
  pub write_cause : status ≡ WriteFault → Rose output.faults_before output.faults_after
  -- 7: nothing was read or written, and no fault was met
  pub nothing : status ≡ NoMemory → IsUntouched input × IsUntouched output
  -- 8: the whole messages were answered so, and what follows them, at the place that is told, isn't nothing and is no message
  pub not_a_message : (place : ℕ) → status ≡ NotAMessage place → IsAnsweredToRest place input.old output.old output.new
  -- 0 comes only where nothing follows the whole messages, and 8 only where something does
  pub rest : TellsRest status input.old
  -- whole messages alone and no count that rose leave 0 and 7
  pub complete : IsComplete status input.old input.faults_before input.faults_after output.faults_before output.faults_after
  -- no file is looked at, so none is bad
  pub files : IsUntouched disk
  pub no_file : status ≢ BadFile

-- a run of `explain` with this file ended with this status
pub record Explained (status : Status) (file : List ℕ) (input output : Course (List ℕ)) (disk : Course Files) : Type 0 where
  -- 0: the output gained the lines that explain the file, and nothing else
  pub done : status ≡ Done → (lines : List ℕ) × IsExplainedBy disk.old file lines × (output.new ≡ append_known output.old lines)
  -- 3: only where the disk failed
  pub read_cause : status ≡ ReadFault → Rose disk.faults_before disk.faults_after
  -- 4: a front of these lines was written
  pub write_fault : status ≡ WriteFault → (lines : List ℕ) × IsExplainedBy disk.old file lines × GainsPart output.old output.new lines
  -- and only where a write failed
  pub write_cause : status ≡ WriteFault → Rose output.faults_before output.faults_after
  -- 13: only where the file isn't there, or its bytes aren't sources
  pub bad_file : status ≡ BadFile → IsBadFile disk.old file
  -- and where that is so, on a disk that tells its files, no other status comes but for a read that failed and want of memory
  pub no_sources : (files : Files) → disk.old ≡ Some files → HasNoSources (files file) → (status ≡ BadFile) ⊎ (status ≡ ReadFault) ⊎ (status ≡ NoMemory)
  -- any status but 3 comes only where the disk didn't fail: no fault is told as want of memory, or as a bad file
  pub unfailed : status ≢ ReadFault → disk.faults_after ≡ disk.faults_before
  -- 3, 7 and 13: nothing was written, and no write failed
  pub nothing : (status ≡ ReadFault) ⊎ (status ≡ NoMemory) ⊎ (status ≡ BadFile) → IsUntouched output
  -- no count that rose leaves 0, 13 and 7
  pub complete : ¬ (Rose disk.faults_before disk.faults_after) → ¬ (Rose output.faults_before output.faults_after)
      → (status ≡ Done) ⊎ (status ≡ BadFile) ⊎ (status ≡ NoMemory)
  -- the input isn't looked at, so 8 never comes
  pub no_input : IsUntouched input
  pub no_message : (place : ℕ) → status ≢ NotAMessage place
  -- the files are as they were
  pub kept : disk.new ≡ disk.old

-- a run of `demo` with this size ended with this status
pub record Demonstrated (status : Status) (size : ℕ) (input output : Course (List ℕ)) (disk : Course Files) : Type 0 where
  -- 0: the output gained the five lines of some replies to the demo's requests, of which each organisation got those that it
  -- would get alone, and nothing else
  pub done : status ≡ Done → (text : List ℕ) × IsToldOf size text × (output.new ≡ append_known output.old text)
  -- 4: a front of such lines was written
  pub write_fault : status ≡ WriteFault → (text : List ℕ) × IsToldOf size text × GainsPart output.old output.new text
  -- and only where a write failed
  pub write_cause : status ≡ WriteFault → Rose output.faults_before output.faults_after
  -- 7: nothing was written, and no write failed
  pub nothing : status ≡ NoMemory → IsUntouched output
  -- no other status comes
  pub statuses : (status ≡ Done) ⊎ (status ≡ WriteFault) ⊎ (status ≡ NoMemory)
  -- a count that didn't rise leaves 0 and 7
  pub complete : ¬ (Rose output.faults_before output.faults_after) → (status ≡ Done) ⊎ (status ≡ NoMemory)
  -- the input isn't looked at
  pub no_input : IsUntouched input
  -- and no file is
  pub no_file : IsUntouched disk

-- the file that a note of `explain` names: at 13 the one that the words name
abbrev pub file_named : Status → List ℕ → Named
file_named Done file = Nothing
file_named Usage file = Nothing
file_named ReadFault file = Nothing
file_named WriteFault file = Nothing
file_named NoMemory file = Nothing
file_named (NotAMessage place) file = Nothing
file_named BadReply file = Nothing
file_named (Refused number) file = Nothing
file_named BadFile file = File file

-- what a note names of a command that asks no server
abbrev pub named_of : Status → Option Command → Named
named_of status None = Nothing
named_of status (Some answer) = Nothing
named_of status (Some (explain file)) = file_named status file
named_of status (Some (demo size)) = Nothing
named_of status (Some (knife told)) = Nothing

-- a command that asks a server
abbrev pub asks_a_server : Option Command → Bool
asks_a_server None = false
asks_a_server (Some answer) = false
asks_a_server (Some (explain file)) = false
asks_a_server (Some (demo size)) = false
asks_a_server (Some (knife told)) = true

-- a command that asks no server makes no connection, and its note names just the file that is bad
pub record IsApart (ended : Ended) (command : Option Command) (peer : PeerCourse) : Type 0 where
  pub no_peer : IsPeerUntouched peer
  pub named : ended.named ≡ named_of ended.status command

-- the command that these words are ended so
pub record Performed (ended : Ended) (words : List (List ℕ)) (input output : Course (List ℕ)) (disk : Course Files) (peer : PeerCourse) : Type 0 where
  -- 2: only where the words aren't understood: they are no command, or spell no errand of `knife`
  pub usage : ended.status ≡ Usage → is_understood (command_of words) ≡ false
  -- and where they aren't it is 2, but for want of memory to read them
  pub no_command : is_understood (command_of words) ≡ false → (ended.status ≡ Usage) ⊎ (ended.status ≡ NoMemory)
  -- and then nothing was read, written or asked
  pub idle : is_understood (command_of words) ≡ false → IsUntouched input × IsUntouched output × IsUntouched disk × IsPeerUntouched peer
  -- `answer`: the isolation theorem
  pub answered : command_of words ≡ Some answer → Answered ended.status input output disk
  -- `explain`
  pub explained : (file : List ℕ) → command_of words ≡ Some (explain file) → Explained ended.status file input output disk
  -- `demo`
  pub demonstrated : (size : ℕ) → command_of words ≡ Some (demo size) → Demonstrated ended.status size input output disk
  -- `knife`
  pub knifed : (told : Knife) (errand : Errand) → command_of words ≡ Some (knife told) → errand_in told.words ≡ Some errand
      → Knifed ended (whom_of told) errand input output disk peer
  -- any other asks no server
  pub apart : asks_a_server (command_of words) ≡ false → IsApart ended (command_of words) peer

-- a run of these words ended with this status; `before` and `after` are the notes as a value
pub record Ran {N : Type 0} (status : Status) (words : List (List ℕ)) (input output notes : Course (List ℕ)) (disk : Course Files) (peer : PeerCourse) (before after : N) : Type 0 where
  -- what the note names
  pub named : Named
  pub performed : Performed (record { status = status; named = named }) words input output disk peer
  -- at 0 nothing is noted, and else one line, or a front of it where that write failed
  pub noted : IsNoted status named notes.old notes.new notes.faults_before notes.faults_after
  -- at 0 the notes aren't touched
  pub quiet : status ≡ Done → after ≡ before
