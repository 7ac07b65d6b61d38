-- What one act makes of a host.
use Rattle.std.specs.Prelude.{◌≡◌, ◌≢◌, ℕ, Bool, true, false, not, ◌&&◌, ◌||◌, List, [], Option, Some, None, if◌then◌else◌}
use Rattle.host_tree.specs.Entries.{Entries, at, has_below, IsHost}
use Rattle.host_tree.specs.Paths.{is_above}
use Rattle.host_tree.specs.declared.entry.Entry.{Entry}
use Rattle.host_tree.specs.declared.entry.Entry.TheVariants.{File, Directory, Link}
use Rattle.host_acts.specs.Tasks.{Task, Work, make_file, make_missing_file, remove_file, make_directory, remove_directory, make_link, remove_link, want_of}
use Rattle.host_acts.specs.Wants.{Holds}
use Rattle.host_acts.specs.declared.cause.Cause.{Cause}
use Rattle.host_acts.specs.declared.cause.Cause.TheVariants.{ParentMissing, NotADirectory, LinkInPath, NotAFile, NotALink, NotEmpty}
use Rattle.host_acts.specs.declared.verdict.Verdict.{Verdict}
use Rattle.host_acts.specs.declared.verdict.Verdict.TheVariants.{UpToDate, Updated, Failed}

-- ---- the table of acts

-- the work removes what stands at its path
abbrev pub is_removal : Work → Bool
is_removal (make_file content mode replaces_link) = false
is_removal (make_missing_file content mode) = false
is_removal remove_file = true
is_removal (make_directory mode recursive) = false
is_removal (remove_directory recursive) = true
is_removal (make_link to) = false
is_removal remove_link = true

-- the work makes the proper prefixes of its path that are missing
abbrev pub makes_prefixes : Work → Bool
makes_prefixes (make_file content mode replaces_link) = false
makes_prefixes (make_missing_file content mode) = false
makes_prefixes remove_file = false
makes_prefixes (make_directory mode recursive) = recursive
makes_prefixes (remove_directory recursive) = false
makes_prefixes (make_link to) = false
makes_prefixes remove_link = false

-- the work removes what stands below its path
abbrev pub removes_below : Work → Bool
removes_below (make_file content mode replaces_link) = false
removes_below (make_missing_file content mode) = false
removes_below remove_file = false
removes_below (make_directory mode recursive) = false
removes_below (remove_directory recursive) = true
removes_below (make_link to) = false
removes_below remove_link = false

-- why the work fails where this stands at a proper prefix: a link is in the way of all work, and of what makes something whatever is no directory
abbrev pub cause_above : Work → Option Entry → Option Cause
cause_above work None = if is_removal work || makes_prefixes work then None else Some ParentMissing
cause_above work (Some (File content mode)) = if is_removal work then None else Some NotADirectory
cause_above work (Some (Directory mode)) = None
cause_above work (Some (Link to)) = Some LinkInPath

-- why the work fails where this stands at its path, with something below it or not
abbrev pub cause_here : Work → Bool → Option Entry → Option Cause
cause_here work below None = None
cause_here (make_file content mode replaces_link) below (Some (File before bits)) = None
cause_here (make_file content mode replaces_link) below (Some (Directory bits)) = Some NotAFile
cause_here (make_file content mode replaces_link) below (Some (Link before)) = if replaces_link then None else Some NotAFile
cause_here (make_missing_file content mode) below (Some (File before bits)) = None
cause_here (make_missing_file content mode) below (Some (Directory bits)) = Some NotAFile
cause_here (make_missing_file content mode) below (Some (Link before)) = Some NotAFile
cause_here remove_file below (Some (File before bits)) = None
cause_here remove_file below (Some (Directory bits)) = Some NotAFile
cause_here remove_file below (Some (Link before)) = None
cause_here (make_directory mode recursive) below (Some (File before bits)) = Some NotADirectory
cause_here (make_directory mode recursive) below (Some (Directory bits)) = None
cause_here (make_directory mode recursive) below (Some (Link before)) = Some NotADirectory
cause_here (remove_directory recursive) below (Some (File before bits)) = Some NotADirectory
cause_here (remove_directory recursive) below (Some (Directory bits)) = if below && not recursive then Some NotEmpty else None
cause_here (remove_directory recursive) below (Some (Link before)) = Some NotADirectory
cause_here (make_link to) below (Some (File before bits)) = Some NotALink
cause_here (make_link to) below (Some (Directory bits)) = Some NotALink
cause_here (make_link to) below (Some (Link before)) = None
cause_here remove_link below (Some (File before bits)) = Some NotALink
cause_here remove_link below (Some (Directory bits)) = Some NotALink
cause_here remove_link below (Some (Link before)) = None

-- what is given, else what there was
abbrev pub given : {X : Type 0} → Option X → X → X
given None before = before
given (Some x) before = x

-- a file that is made: empty where no content is given, of mode 0644 where no mode is
abbrev pub made_file : Option (List ℕ) → Option ℕ → Entry
made_file content mode = File (given content []) (given mode 420)

-- what stands at the path once the work has changed it
abbrev pub entry_after : Work → Option Entry → Option Entry
entry_after (make_file content mode replaces_link) None = Some (made_file content mode)
entry_after (make_file content mode replaces_link) (Some (File before bits)) = Some (File (given content before) (given mode bits))
entry_after (make_file content mode replaces_link) (Some (Directory bits)) = Some (made_file content mode)
entry_after (make_file content mode replaces_link) (Some (Link before)) = Some (made_file content mode)
entry_after (make_missing_file content mode) None = Some (made_file content mode)
entry_after (make_missing_file content mode) (Some (File before bits)) = Some (File before bits)
entry_after (make_missing_file content mode) (Some (Directory bits)) = Some (made_file content mode)
entry_after (make_missing_file content mode) (Some (Link before)) = Some (made_file content mode)
entry_after remove_file before = None
entry_after (make_directory mode recursive) None = Some (Directory (given mode 493))
entry_after (make_directory mode recursive) (Some (File before bits)) = Some (Directory (given mode 493))
entry_after (make_directory mode recursive) (Some (Directory bits)) = Some (Directory (given mode bits))
entry_after (make_directory mode recursive) (Some (Link before)) = Some (Directory (given mode 493))
entry_after (remove_directory recursive) before = None
entry_after (make_link to) before = Some (Link to)
entry_after remove_link before = None

-- ---- acts

-- a host has what a task wants
abbrev pub IsDone : Entries → Task → Type 0
IsDone host task = Holds host task.path (want_of task.work)

-- why a task fails on a host: the first proper prefix of its path at which there is a cause, else what stands at the path itself
pub data HasCause (host : Entries) (task : Task) (cause : Cause) : Type 0 where
  above : (prefix : List ℕ) → is_above prefix task.path ≡ true → cause_above task.work (at host prefix) ≡ Some cause
      → ((before : List ℕ) → is_above before prefix ≡ true → cause_above task.work (at host before) ≡ None) → HasCause host task cause
  here : ((prefix : List ℕ) → is_above prefix task.path ≡ true → cause_above task.work (at host prefix) ≡ None)
      → cause_here task.work (has_below host task.path) (at host task.path) ≡ Some cause → HasCause host task cause

-- what stands there, and a new directory of mode 0755 where nothing does
abbrev pub or_directory : Option Entry → Option Entry
or_directory None = Some (Directory 493)
or_directory (Some entry) = Some entry

-- what stands at another path than the task's once it was done: nothing below a directory that it removes, a directory at each proper prefix that it makes, and else what stood there
abbrev pub other_after : Task → Entries → List ℕ → Option Entry
other_after task host path =
    if removes_below task.work && is_above task.path path then None else (if makes_prefixes task.work && is_above path task.path then or_directory (at host path) else at host path)

-- a task was done: what it wants holds, at its path stands what it makes, at each other path what is left there, and what is left is a host
pub record Updates (task : Task) (host new : Entries) : Type 0 where
  pub done : IsDone new task
  pub here : at new task.path ≡ entry_after task.work (at host task.path)
  pub elsewhere : (path : List ℕ) → path ≢ task.path → at new path ≡ other_after task host path
  pub whole : IsHost new

-- what a task that was done in part makes of another path than its own: it stays, or it is a missing prefix and becomes a directory of mode 0755, or it is below a directory that is removed and goes
pub data Elsewhere (task : Task) (host new : Entries) (path : List ℕ) : Type 0 where
  stays : at new path ≡ at host path → Elsewhere task host new path
  made : is_above path task.path ≡ true → makes_prefixes task.work ≡ true → at host path ≡ None → at new path ≡ Some (Directory 493) → Elsewhere task host new path
  gone : is_above task.path path ≡ true → removes_below task.work ≡ true → at new path ≡ None → Elsewhere task host new path

-- a task was done in part: the host differs from what it was at the task's path, at missing prefixes that became directories, and below a directory that it removes, at most
abbrev pub IsPart : Task → Entries → Entries → Type 0
IsPart task host new = (path : List ℕ) → path ≢ task.path → Elsewhere task host new path

-- a task performed on a host comes to this verdict and leaves this host: up to date where what it wants holds, else failed with the first cause where there is one, else updated
abbrev pub Act : Entries → Task → Verdict → Entries → Type 0
Act host task UpToDate new = IsDone host task × (new ≡ host)
Act host task (Failed cause) new = (IsDone host task → ⊥) × HasCause host task cause × (new ≡ host)
Act host task Updated new = (IsDone host task → ⊥) × ((cause : Cause) → HasCause host task cause → ⊥) × Updates task host new

-- an act is determined by the host and the task: its verdict, and what it leaves
abbrev pub ActsAreDetermined : Type 0
ActsAreDetermined = (host one other : Entries) (task : Task) (verdict also : Verdict) → Act host task verdict one → Act host task also other → (verdict ≡ also) × (one ≡ other)

-- the same, seen from the task
abbrev pub ActsTo : Task → Verdict → Entries → Entries → Type 0
ActsTo task verdict host new = Act host task verdict new

-- where an action has a task, it is performed and comes to a verdict; else there is none, and the host stays
abbrev pub Performs : Option Task → Option Verdict → Entries → Entries → Type 0
Performs None None host new = new ≡ host
Performs None (Some verdict) host new = ⊥
Performs (Some task) None host new = ⊥
Performs (Some task) (Some verdict) host new = Act host task verdict new

-- where an action has a task, it was performed in part; else the host stays
abbrev pub PerformsPart : Option Task → Entries → Entries → Type 0
PerformsPart None host new = new ≡ host
PerformsPart (Some task) host new = IsPart task host new
