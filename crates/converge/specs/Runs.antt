-- A run: the acts that a plan makes of a host, in order.
use Rattle.std.specs.Prelude.{◌≡◌, true, List, [], ◌∷◌, ◌++◌, Option, Some, None}
use Rattle.host_acts.specs.Acts.{Act, PerformsPart}
use Rattle.host_acts.specs.Tasks.{Task}
use Rattle.host_acts.specs.declared.cause.Cause.{Cause}
use Rattle.host_acts.specs.declared.verdict.Verdict.{Verdict}
use Rattle.host_acts.specs.declared.verdict.Verdict.TheVariants.{UpToDate, Updated, Failed}
use Rattle.host_tree.specs.Entries.{Entries}
use Rattle.notify_queue.specs.Queue.{firsts, has_pair}
use Rattle.notify_queue.specs.declared.pair.Pair.{Pair}
use Rattle.resource_core.specs.Plans.{Planned}
use Rattle.converge.specs.Pairs.{fires_of, own_fires, task_of}
use Rattle.converge.specs.declared.deeds.Deed.{Deed}
use Rattle.converge.specs.declared.firing.Fire.{Fire}
use Rattle.converge.specs.declared.firing.Fire.TheVariants.{Now, Later}

-- an act that came to this verdict
abbrev pub deed : Pair → Verdict → Deed
deed pair verdict = record { pair = pair; verdict = verdict }

-- a work list that is performed from its front on a host: the acts, the pairs that were queued, what is left of the list, and the host.
-- What is for later is queued, an act that updates puts what it fires in front, and after a failed act nothing is left
pub data Chain (plan : Planned) : List Fire → Entries → List Deed → List Pair → List Fire → Entries → Type 0 where
  halts : {todo : List Fire} {host : Entries} → Chain plan todo host [] [] todo host
  queues : {todo : List Fire} {host new : Entries} {acts : List Deed} {queued : List Pair} {left : List Fire}
      (p : Pair) → Chain plan todo host acts queued left new → Chain plan (Later p ∷ todo) host acts (p ∷ queued) left new
  passes : {todo : List Fire} {host new : Entries} {acts : List Deed} {queued : List Pair} {left : List Fire}
      (p : Pair) → task_of plan p ≡ None → Chain plan todo host acts queued left new → Chain plan (Now p ∷ todo) host acts queued left new
  keeps : {todo : List Fire} {host mid new : Entries} {acts : List Deed} {queued : List Pair} {left : List Fire}
      (p : Pair) (t : Task) → task_of plan p ≡ Some t → Act host t UpToDate mid → Chain plan todo mid acts queued left new
      → Chain plan (Now p ∷ todo) host (deed p UpToDate ∷ acts) queued left new
  updates : {todo : List Fire} {host mid new : Entries} {acts : List Deed} {queued : List Pair} {left : List Fire}
      (p : Pair) (t : Task) → task_of plan p ≡ Some t → Act host t Updated mid → Chain plan (fires_of plan p ++ todo) mid acts queued left new
      → Chain plan (Now p ∷ todo) host (deed p Updated ∷ acts) queued left new
  fails : {todo : List Fire} {host new : Entries}
      (p : Pair) (t : Task) (cause : Cause) → task_of plan p ≡ Some t → Act host t (Failed cause) new
      → Chain plan (Now p ∷ todo) host (deed p (Failed cause) ∷ []) [] [] new

-- queued pairs that are performed in this order, each of which the own actions or an earlier one had queued: the pairs, the acts, what these queued, and the host
pub data Rest (plan : Planned) (queued : List Pair) (start : Entries) : List Pair → List Deed → List Pair → Entries → Type 0 where
  at_first : Rest plan queued start [] [] [] start
  and_next : {list : List Pair} {acts then : List Deed} {fired now : List Pair} {host new : Entries}
      (p : Pair) → Rest plan queued start list acts fired host → has_pair (queued ++ fired) p ≡ true → Chain plan (Now p ∷ []) host then now [] new
      → Rest plan queued start (list ++ p ∷ []) (acts ++ then) (fired ++ now) new

-- a run: all own actions in order, up to and with the first that has a failed act, and then the pairs that were queued, each once, in order of first queuing
pub record Run (plan : Planned) (host : Entries) (acts : List Deed) (new : Entries) : Type 0 where
  pub first : List Deed
  pub queued : List Pair
  pub between : Entries
  pub owns : Chain plan (own_fires plan) host first queued [] between
  pub list : List Pair
  pub then : List Deed
  pub fired : List Pair
  pub rest : Rest plan queued between list then fired new
  pub once : list ≡ firsts (queued ++ fired)
  pub acts_are : acts ≡ first ++ then

-- the same, seen from the acts
abbrev pub IsRunOf : Planned → List Deed → Entries → Entries → Type 0
IsRunOf plan acts host new = Run plan host acts new

-- ---- what failed

-- an act that failed, else what there is
abbrev pub failed_or : Pair → Verdict → Option (Pair × Cause) → Option (Pair × Cause)
failed_or pair UpToDate later = later
failed_or pair Updated later = later
failed_or pair (Failed cause) later = Some (pair, cause)

-- the first act that failed, with its cause
abbrev pub first_failed : List Deed → Option (Pair × Cause)
first_failed [] = None
first_failed (act ∷ more) = failed_or act.pair act.verdict (first_failed more)

-- ---- a run that was cut off

-- a run as far as it came: the acts, what is left of the work list in hand, and the host
pub data Begins (plan : Planned) (host : Entries) : List Deed → List Fire → Entries → Type 0 where
  among_owns : {acts : List Deed} {queued : List Pair} {left : List Fire} {mid : Entries} → Chain plan (own_fires plan) host acts queued left mid → Begins plan host acts left mid
  before_queued : {first then : List Deed} {queued list fired : List Pair} {between mid : Entries} (waiting : List Pair)
      → Chain plan (own_fires plan) host first queued [] between → Rest plan queued between list then fired mid
      → list ++ waiting ≡ firsts (queued ++ fired) → Begins plan host (first ++ then) [] mid
  among_queued : {first then more : List Deed} {queued list fired later : List Pair} {between at mid : Entries} {left : List Fire} (p : Pair) (waiting : List Pair)
      → Chain plan (own_fires plan) host first queued [] between → Rest plan queued between list then fired at
      → list ++ p ∷ waiting ≡ firsts (queued ++ fired) → Chain plan (Now p ∷ []) at more later left mid → Begins plan host (first ++ (then ++ more)) left mid

-- of a work list at most the next act was done in part
abbrev pub IsInPart : Planned → List Fire → Entries → Entries → Type 0
IsInPart plan [] mid new = new ≡ mid
IsInPart plan (Now p ∷ todo) mid new = PerformsPart (task_of plan p) mid new
IsInPart plan (Later p ∷ todo) mid new = new ≡ mid

-- a run was cut off: these are its first acts, and the host is as they leave it, but for a part of the next act
pub record IsCutOff (plan : Planned) (host : Entries) (acts : List Deed) (new : Entries) : Type 0 where
  pub left : List Fire
  pub mid : Entries
  pub begins : Begins plan host acts left mid
  pub part : IsInPart plan left mid new
