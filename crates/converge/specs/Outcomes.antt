-- What a run comes to.
use Rattle.std.specs.Prelude.{◌≡◌, ℕ, Bool, true, false, List, Option, Some, None, ⊤}
use Rattle.host_acts.specs.declared.cause.Cause.{Cause}
use Rattle.host_tree.specs.Entries.{Entries}
use Rattle.notify_queue.specs.declared.pair.Pair.{Pair}
use Rattle.resource_core.specs.Plans.{Planned}
use Rattle.converge.specs.Reports.{lines_of, whole_report}
use Rattle.converge.specs.Runs.{IsCutOff, Run, first_failed}
use Rattle.converge.specs.Settled.{AreUpToDate, IsSettled}
use Rattle.converge.specs.declared.deeds.Deed.{Deed}
use Rattle.converge.specs.declared.outcome.Cap.{Cap}
use Rattle.converge.specs.declared.outcome.Outcome.{Outcome}
use Rattle.converge.specs.declared.outcome.Outcome.TheVariants as of

-- a run of which no act failed came to its end, and the report has its acts and its last line
pub record IsDoneRun (plan : Planned) (report : List (List ℕ)) (host new : Entries) : Type 0 where
  pub acts : List Deed
  pub run : Run plan host acts new
  pub well : first_failed acts ≡ None
  pub told : report ≡ whole_report plan acts

-- a run came to its end of which this act failed first, and the report has its acts
pub record IsFailedRun (plan : Planned) (pair : Pair) (cause : Cause) (report : List (List ℕ)) (host new : Entries) : Type 0 where
  pub acts : List Deed
  pub run : Run plan host acts new
  pub failed : first_failed acts ≡ Some (pair, cause)
  pub told : report ≡ lines_of plan acts

-- a run was cut off, and the report has the acts that it came to
pub record IsCutOffRun (plan : Planned) (report : List (List ℕ)) (host new : Entries) : Type 0 where
  pub acts : List Deed
  pub cut : IsCutOff plan host acts new
  pub told : report ≡ lines_of plan acts

-- a run came to this, and left this host
abbrev pub ComesTo : Planned → Outcome → Entries → Entries → Type 0
ComesTo plan (of.Done report) host new = IsDoneRun plan report.lines host new
ComesTo plan (of.Failed resource action cause report) host new = IsFailedRun plan (record { resource = resource; action = action }) cause report.lines host new
ComesTo plan (of.HostFault report) host new = IsCutOffRun plan report.lines host new
ComesTo plan (of.LacksCap cap) host new = new ≡ host
ComesTo plan of.NoMemory host new = (acts : List Deed) × IsCutOff plan host acts new

-- the host failed
abbrev pub is_host_fault : Outcome → Bool
is_host_fault (of.Done report) = false
is_host_fault (of.Failed resource action cause report) = false
is_host_fault (of.HostFault report) = true
is_host_fault (of.LacksCap cap) = false
is_host_fault of.NoMemory = false

-- what is lacking
abbrev pub lack_in : Outcome → Option Cap
lack_in (of.Done report) = None
lack_in (of.Failed resource action cause report) = None
lack_in (of.HostFault report) = None
lack_in (of.LacksCap cap) = Some cap
lack_in of.NoMemory = None

-- a run that is done left nothing to do
abbrev pub Settles : Planned → Outcome → Entries → Entries → Type 0
Settles plan (of.Done report) host new = IsSettled plan new
Settles plan (of.Failed resource action cause report) host new = ⊤
Settles plan (of.HostFault report) host new = ⊤
Settles plan (of.LacksCap cap) host new = ⊤
Settles plan of.NoMemory host new = ⊤

-- each act of a run was up to date, as the report tells, and the host stayed
pub record IsIdleRun (plan : Planned) (report : List (List ℕ)) (host new : Entries) : Type 0 where
  pub acts : List Deed
  pub run : Run plan host acts new
  pub idle : AreUpToDate acts
  pub stays : new ≡ host
  pub told : report ≡ whole_report plan acts

-- nothing was done, and the run is done, unless the host failed or memory was wanted
abbrev pub Idles : Planned → Outcome → Entries → Entries → Type 0
Idles plan (of.Done report) host new = IsIdleRun plan report.lines host new
Idles plan (of.Failed resource action cause report) host new = ⊥
Idles plan (of.HostFault report) host new = ⊤
Idles plan (of.LacksCap cap) host new = ⊥
Idles plan of.NoMemory host new = ⊤

-- the run is done, unless the host failed or memory was wanted
abbrev pub Completes : Outcome → Type 0
Completes (of.Done report) = ⊤
Completes (of.Failed resource action cause report) = ⊥
Completes (of.HostFault report) = ⊤
Completes (of.LacksCap cap) = ⊥
Completes of.NoMemory = ⊤

-- no act of the plan's run on this host fails
abbrev pub NoneFails : Planned → Entries → Type 0
NoneFails plan host = (acts : List Deed) (new : Entries) → Run plan host acts new → first_failed acts ≡ None

-- where nothing was left to do, nothing was done
abbrev pub IsIdle : Planned → Outcome → Entries → Entries → Type 0
IsIdle plan result host new = IsSettled plan host → Idles plan result host new

-- where no act of the plan's run fails, it is done
abbrev pub IsComplete : Planned → Outcome → Entries → Entries → Type 0
IsComplete plan result host new = NoneFails plan host → Completes result
