-- What befell a request on its way: the mark that is read off its reply.
use Rattle.std.specs.Prelude.{[], ℕ, List, unwrap_or, ◌==◌, if◌then◌else◌, codes}
use Rattle.org_requests.specs.declared.replies.Reply.{Reply}
use Rattle.org_requests.specs.declared.requests.Request.{Request}
use Rattle.org_requests.specs.Replies.{with_body}
use Rattle.org_requests.specs.Requests.{org_of}
use Rattle.org_requests.specs.Refusals.{out_of_memory, error_body}
use Rattle.org_core.specs.FileMoves.{after_all}
use Rattle.org_core.specs.FullStates.{FullState}
use Rattle.org_machine.specs.Steps.{step}

-- served as the step says, short of memory, or with its keeper down
pub data Mark : Type 0 where
  served : Mark
  short : Mark
  down : Mark

-- 500 is the one reply to want of memory, and 503 the one to a keeper that failed
abbrev pub mark_of : Reply → Mark
mark_of reply = if reply.status == 500 then short else (if reply.status == 503 then down else served)

-- the reply to a keeper that failed
abbrev pub unavailable : Reply
unavailable = with_body 503 (error_body (codes "unavailable"))

-- the reply to a request that has this mark
abbrev pub answer : Mark → Request → FullState → Reply
answer served request state = (step request state).reply
answer short request state = out_of_memory
answer down request state = unavailable

-- the name of the organisation that a request is of; that of a request of none is empty
abbrev pub own_name : Request → List ℕ
own_name request = unwrap_or (org_of request) []

-- the state after it: only a request that is served changes it, by its moves
abbrev pub after : Mark → Request → FullState → FullState
after served request state = after_all (own_name request) (step request state).moves state
after short request state = state
after down request state = state

-- a request may have this mark in this state. There is no keeper, so none is down
abbrev pub IsLawful : Mark → Request → FullState → Type 0
IsLawful served request state = Unit {0}
IsLawful short request state = Unit {0}
IsLawful down request state = ⊥
