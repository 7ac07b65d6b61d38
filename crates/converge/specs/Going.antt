-- How far a run has come, for the private clauses.
use Rattle.std.specs.Prelude.{◌≡◌, ℕ, suc, ◌+◌, ◌^◌, List, [], ◌∷◌, ◌++◌, length, Some, ⊤, slice_get, slice_index, take}
use Rattle.host_acts.specs.Tasks.{Offers, needs}
use Rattle.host_acts.specs.declared.verdict.Verdict.{Verdict}
use Rattle.host_acts.specs.declared.verdict.Verdict.TheVariants.{UpToDate, Updated, Failed}
use Rattle.host_tree.specs.Entries.{Entries}
use Rattle.host_tree.specs.declared.caps.Caps.{Caps}
use Rattle.host_tree.specs.declared.fault.HostFault.{HostFault}
use Rattle.host_tree.specs.declared.fault.HostFault.TheVariants as fault
use Rattle.notify_queue.specs.Queue.{IsWithin, Queued, firsts, with_pairs}
use Rattle.notify_queue.specs.declared.pair.Pair.{Pair}
use Rattle.resource_core.specs.Plans.{Planned}
use Rattle.resource_core.specs.Types.{row}
use Rattle.resource_core.specs.declared.links.Notification.{Notification}
use Rattle.resource_core.specs.declared.resources.Resource.{Resource}
use Rattle.resource_core.specs.declared.types.Action.{Action}
use Rattle.converge.specs.Pairs.{fires_of, own_fires}
use Rattle.converge.specs.Reports.{lines_of}
use Rattle.converge.specs.Runs.{Chain, IsCutOff, IsInPart, Rest}
use Rattle.converge.specs.Settled.{fired_pair}
use Rattle.converge.specs.declared.deeds.Deed.{Deed}
use Rattle.converge.specs.declared.firing.Fire.{Fire}
use Rattle.converge.specs.declared.firing.Fire.TheVariants.{Now, Later}
use Rattle.converge.specs.declared.log.Log.{Log}

-- ---- what a work list has

-- a pair of the plan's, of which a host that offers this offers what it needs
pub record IsReady (plan : Planned) (caps : Caps) (pair : Pair) : Type 0 where
  pub within : IsWithin (length plan.resources) pair
  pub offered : (r : Resource) (action : Action) → slice_get plan.resources pair.resource ≡ Some r → slice_get (row r.kind).actions pair.action ≡ Some action → Offers caps (needs r action)

-- so is each pair of these
abbrev pub AreReady : Planned → Caps → List Pair → Type 0
AreReady plan caps [] = ⊤
AreReady plan caps (pair ∷ more) = IsReady plan caps pair × AreReady plan caps more

-- and each of those on a work list
abbrev pub AreReadyFires : Planned → Caps → List Fire → Type 0
AreReadyFires plan caps [] = ⊤
AreReadyFires plan caps (fire ∷ more) = IsReady plan caps (fired_pair fire) × AreReadyFires plan caps more

-- whatever a resource fires is ready
abbrev pub FiresReady : Planned → Caps → Type 0
FiresReady plan caps = (pair : Pair) → AreReadyFires plan caps (fires_of plan pair)

-- ---- how heavy a work list is

-- how many are fired in all
abbrev pub all_fired : List (List Notification) → ℕ
all_fired [] = 0
all_fired (fires ∷ more) = length fires + all_fired more

-- one more than are fired in all
abbrev pub base : Planned → ℕ
base plan = suc (all_fired plan.fires)

-- what is done at once weighs more than all that it can fire
abbrev pub weight : Planned → Fire → ℕ
weight plan (Now p) = base plan ^ suc (slice_index plan.depths p.resource)
weight plan (Later p) = 1

abbrev pub weights : Planned → List Fire → ℕ
weights plan [] = 0
weights plan (fire ∷ more) = weight plan fire + weights plan more

-- what is left of a work list once its next pair came to a verdict
abbrev pub left_after : Planned → Pair → Verdict → List Fire → List Fire
left_after plan pair UpToDate todo = todo
left_after plan pair Updated todo = fires_of plan pair ++ todo
left_after plan pair (Failed cause) todo = []

-- ---- how far it has come

-- each act so far has its line
abbrev pub IsTold : Planned → Log → Type 0
IsTold plan log = log.lines ≡ lines_of plan log.acts.items

-- a work list was gone on with: the acts that were gained, and what was queued
pub record Went (plan : Planned) (todo : List Fire) (acts_before : List Deed) (ever_before : List Pair) (left : List Fire) (acts : List Deed) (ever : List Pair) (host new : Entries) : Type 0 where
  pub gained : List Deed
  pub queued : List Pair
  pub chain : Chain plan todo host gained queued left new
  pub acts_are : acts ≡ acts_before ++ gained
  pub ever_is : ever ≡ with_pairs ever_before queued

-- a work list was stopped by a fault: what was gained before it, and the next act in part. Only where memory was wanted the acts may lack one that was gained
pub record Stopped (plan : Planned) (todo : List Fire) (acts_before : List Deed) (acts : List Deed) (why : HostFault) (host new : Entries) : Type 0 where
  pub gained : List Deed
  pub queued : List Pair
  pub left : List Fire
  pub mid : Entries
  pub chain : Chain plan todo host gained queued left mid
  pub part : IsInPart plan left mid new
  pub acts_are : why ≡ fault.Failed → acts ≡ acts_before ++ gained

-- a run in whose queue these pairs were ever put, of which so many were taken: all own actions had their turn, and what was taken is performed
pub record Running (plan : Planned) (acts : List Deed) (ever : List Pair) (taken : ℕ) (host new : Entries) : Type 0 where
  pub first : List Deed
  pub queued : List Pair
  pub between : Entries
  pub owns : Chain plan (own_fires plan) host first queued [] between
  pub then : List Deed
  pub fired : List Pair
  pub rest : Rest plan queued between (take taken ever) then fired new
  pub ever_is : ever ≡ firsts (queued ++ fired)
  pub acts_are : acts ≡ first ++ then

-- the same, seen from the run
abbrev pub IsRunning : Planned → List Deed → List Pair → ℕ → Entries → Entries → Type 0
IsRunning plan acts ever taken host new = Running plan acts ever taken host new

-- a run was stopped by a fault
pub record RunStopped (plan : Planned) (acts : List Deed) (why : HostFault) (host new : Entries) : Type 0 where
  pub gained : List Deed
  pub cut : IsCutOff plan host gained new
  pub acts_are : why ≡ fault.Failed → acts ≡ gained

-- the queue has the pairs of this plan, and each that was ever queued is ready
pub record IsQueueOf (plan : Planned) (caps : Caps) (queue : Queued) : Type 0 where
  pub size : queue.resources ≡ length plan.resources
  pub ready : AreReady plan caps queue.ever
