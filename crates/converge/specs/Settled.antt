-- Plans whose wants agree, and hosts on which nothing is left to do.
use Rattle.std.specs.Prelude.{◌≡◌, true, List, [], ◌∷◌, Some, None, ⊤}
use Rattle.host_acts.specs.Acts.{IsDone}
use Rattle.host_acts.specs.Agreeing.{Agrees, AgreesByTable}
use Rattle.host_acts.specs.Tasks.{Task, wanted_by}
use Rattle.host_acts.specs.declared.verdict.Verdict.TheVariants.{UpToDate}
use Rattle.host_tree.specs.Entries.{Entries}
use Rattle.notify_queue.specs.Queue.{has_pair}
use Rattle.notify_queue.specs.declared.pair.Pair.{Pair}
use Rattle.resource_core.specs.Plans.{Planned}
use Rattle.converge.specs.Pairs.{fires_of, own, task_of}
use Rattle.converge.specs.Runs.{Run, first_failed}
use Rattle.converge.specs.declared.deeds.Deed.{Deed}
use Rattle.converge.specs.declared.firing.Fire.{Fire}
use Rattle.converge.specs.declared.firing.Fire.TheVariants.{Now, Later}

-- the pair that is fired
abbrev pub fired_pair : Fire → Pair
fired_pair (Now p) = p
fired_pair (Later p) = p

-- the pairs that are fired, in order
abbrev pub fired_pairs : List Fire → List Pair
fired_pairs [] = []
fired_pairs (fire ∷ more) = fired_pair fire ∷ fired_pairs more

-- a plan states a pair: it is an own action, or one that a resource notifies or subscribes to
pub data IsStated (plan : Planned) (pair : Pair) : Type 0 where
  own_action : has_pair (own plan) pair ≡ true → IsStated plan pair
  notified : (by : Pair) → has_pair (fired_pairs (fires_of plan by)) pair ≡ true → IsStated plan pair

-- any two wants that a plan states hold together in some host
abbrev pub Agree : Planned → Type 0
Agree plan = (p q : Pair) (s t : Task) → IsStated plan p → IsStated plan q → task_of plan p ≡ Some s → task_of plan q ≡ Some t → Agrees (wanted_by s) (wanted_by t)

-- any two wants that a plan states agree by the table, which asks for no host
abbrev pub AgreeByTable : Planned → Type 0
AgreeByTable plan = (p q : Pair) (s t : Task) → IsStated plan p → IsStated plan q → task_of plan p ≡ Some s → task_of plan q ≡ Some t → AgreesByTable (wanted_by s) (wanted_by t)

-- so any two of them hold together in some host
abbrev pub PlansByTableAgree : Type 0
PlansByTableAgree = (plan : Planned) → AgreeByTable plan → Agree plan

-- what each own action wants holds
abbrev pub IsSettled : Planned → Entries → Type 0
IsSettled plan host = (p : Pair) (t : Task) → has_pair (own plan) p ≡ true → task_of plan p ≡ Some t → IsDone host t

-- no act changed anything or failed
abbrev pub AreUpToDate : List Deed → Type 0
AreUpToDate [] = ⊤
AreUpToDate (act ∷ more) = (act.verdict ≡ UpToDate) × AreUpToDate more

-- where the wants of a plan agree and no act of a run failed, nothing is left to do
abbrev pub WellSettles : Type 0
WellSettles = (plan : Planned) (host new : Entries) (acts : List Deed) → Agree plan → Run plan host acts new → first_failed acts ≡ None → IsSettled plan new

-- where nothing is left to do, each act of a run is up to date and the host stays
abbrev pub SettledStays : Type 0
SettledStays = (plan : Planned) (host new : Entries) (acts : List Deed) → IsSettled plan host → Run plan host acts new → AreUpToDate acts × (new ≡ host)
