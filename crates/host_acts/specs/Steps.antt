-- What an act comes to by what is seen, for the private clauses.
use Rattle.std.specs.Prelude.{ℕ, Bool, true, false, not, ◌&&◌, ◌||◌, ◌==◌, List, Option, Some, None, bytes_eq, if◌then◌else◌}
use Rattle.host_tree.specs.Acts.{entry_of}
use Rattle.host_tree.specs.declared.entry.Entry.{Entry}
use Rattle.host_tree.specs.declared.entry.Entry.TheVariants.{File, Directory, Link}
use Rattle.host_tree.specs.declared.seen.Seen.{Seen}
use Rattle.host_tree.specs.declared.seen.Seen.TheVariants.{Absent, FileThere, FolderThere, LinkThere}
use Rattle.host_acts.specs.Acts.{cause_here, is_removal, makes_prefixes}
use Rattle.host_acts.specs.Tasks.{Work, want_of}
use Rattle.host_acts.specs.Wants.{Want, absent, file, directory, link}
use Rattle.host_acts.specs.declared.cause.Cause.{Cause}
use Rattle.host_acts.specs.declared.cause.Cause.TheVariants.{ParentMissing, NotADirectory, LinkInPath, NotAFile, NotALink, NotEmpty}
use Rattle.host_acts.specs.declared.scanning.Obstacle.{Obstacle}
use Rattle.host_acts.specs.declared.scanning.Obstacle.TheVariants as over
use Rattle.host_acts.specs.declared.steps.Step.{Step}
use Rattle.host_acts.specs.declared.steps.Step.TheVariants.{Stays, Fails, Changes}

-- a text is the one that is given, if one is
abbrev pub fits_text : Option (List ℕ) → List ℕ → Bool
fits_text None before = true
fits_text (Some text) before = bytes_eq text before

-- a mode is the one that is given, if one is
abbrev pub fits_mode : Option ℕ → ℕ → Bool
fits_mode None before = true
fits_mode (Some mode) before = mode == before

-- what stands at a path is what is wanted there
abbrev pub is_wanted : Want → Option Entry → Bool
is_wanted absent None = true
is_wanted absent (Some entry) = false
is_wanted (file content mode) None = false
is_wanted (file content mode) (Some (File before bits)) = fits_text content before && fits_mode mode bits
is_wanted (file content mode) (Some (Directory bits)) = false
is_wanted (file content mode) (Some (Link before)) = false
is_wanted (directory mode) None = false
is_wanted (directory mode) (Some (File before bits)) = false
is_wanted (directory mode) (Some (Directory bits)) = fits_mode mode bits
is_wanted (directory mode) (Some (Link before)) = false
is_wanted (link to) None = false
is_wanted (link to) (Some (File before bits)) = false
is_wanted (link to) (Some (Directory bits)) = false
is_wanted (link to) (Some (Link before)) = bytes_eq to before

-- to fail with a cause, or to change
abbrev pub fails_or_changes : Option Cause → Step
fails_or_changes None = Changes
fails_or_changes (Some cause) = Fails cause

-- what is to be done where all proper prefixes are directories and this stands at the path, with something below it or not
abbrev pub step_here : Work → Bool → Option Entry → Step
step_here work below entry = if is_wanted (want_of work) entry then Stays else fails_or_changes (cause_here work below entry)

-- something was seen below a directory
abbrev pub is_filled : Seen → Bool
is_filled Absent = false
is_filled (FileThere content mode) = false
is_filled (FolderThere mode empty) = if empty then false else true
is_filled (LinkThere to) = false

-- what is to be done where this was seen
abbrev pub step_seen : Work → Seen → Step
step_seen work seen = step_here work (is_filled seen) (entry_of seen)

-- why the work fails where there is such an obstacle at a proper prefix
abbrev pub cause_over : Work → Obstacle → Option Cause
cause_over work over.Nothing = if is_removal work || makes_prefixes work then None else Some ParentMissing
cause_over work over.File = if is_removal work then None else Some NotADirectory
cause_over work over.Link = Some LinkInPath

-- to fail with a cause, or else to stay where the work is a removal, and to change where it isn't
abbrev pub fails_or_goes : Option Cause → Bool → Step
fails_or_goes None removal = if removal then Stays else Changes
fails_or_goes (Some cause) removal = Fails cause

-- what is to be done where this is at the first proper prefix that is no directory
abbrev pub step_over : Work → Obstacle → Step
step_over work obstacle = fails_or_goes (cause_over work obstacle) (is_removal work)

-- why work on a file fails where this stands: it goes over links or it doesn't
abbrev pub file_cause : Bool → Option Entry → Option Cause
file_cause over_links None = None
file_cause over_links (Some (File content mode)) = None
file_cause over_links (Some (Directory mode)) = Some NotAFile
file_cause over_links (Some (Link to)) = if over_links then None else Some NotAFile

-- why work on a directory fails where this stands, with something below it or not: that may be or it may not
abbrev pub directory_cause : Bool → Bool → Option Entry → Option Cause
directory_cause may_be_filled below None = None
directory_cause may_be_filled below (Some (File content mode)) = Some NotADirectory
directory_cause may_be_filled below (Some (Directory mode)) = if below && not may_be_filled then Some NotEmpty else None
directory_cause may_be_filled below (Some (Link to)) = Some NotADirectory

-- why work on a link fails where this stands
abbrev pub link_cause : Option Entry → Option Cause
link_cause None = None
link_cause (Some (File content mode)) = Some NotALink
link_cause (Some (Directory mode)) = Some NotALink
link_cause (Some (Link to)) = None
