-- How a talk ends, and what came of one.
use Rattle.std.specs.Prelude.{◌≡◌, ℕ, List, Bool, ◌||◌, ◌==◌, if◌then◌else◌, Result, Ok, Err, Option, Some, None}
use Rattle.peer_wire.specs.declared.asks.Ask.{Ask}
use Rattle.peer_wire.specs.declared.asks.Whom.{Whom}
use Rattle.talks.specs.Talk.{Talk, Line, Goes, Stops, IsUnwritten, IsUnread, IsUnanswered, ask, end}
use Rattle.talks.specs.declared.halts.Halt.{Halt}
use Rattle.talks.specs.declared.halts.Halt.TheVariants as halt

-- the talk came to its end with a result, or a reply has a status that isn't expected, or a body without its form
pub data Ending (R : Type 0) : Type 0 where
  done : R → Ending R
  answered : (status : ℕ) → Ask → Ending R
  malformed : Ask → Ending R

-- 200 and 201
abbrev pub is_good : ℕ → Bool
is_good status = status == 200 || status == 201

-- it asks, and goes on with the body of a good reply
abbrev pub want : {R : Type 0} → Ask → (List ℕ → Talk (Ending R)) → Talk (Ending R)
want request next =
    ask request (λ reply. if is_good reply.status then next reply.body else end (answered reply.status request))

-- the same, where one more status is an expected step, which goes on to `other`
abbrev pub want_or : {R : Type 0} → ℕ → Ask → Talk (Ending R) → (List ℕ → Talk (Ending R)) → Talk (Ending R)
want_or expected request other next =
    ask request
    (λ reply. if is_good reply.status then next reply.body else if reply.status == expected then other else end (answered reply.status request))

-- it goes on with what the body of this request's reply has, or ends where that hasn't its form
abbrev pub formed : {X R : Type 0} → Ask → Option X → (X → Talk (Ending R)) → Talk (Ending R)
formed request None next = end (malformed request)
formed request (Some x) next = next x

-- the talk halted so: a fault or want of memory cut it short, or no reply to a request begins, or it came to an end without a result
abbrev pub Halts : {R : Type 0} → Whom → Talk (Ending R) → Halt → Line → Line → Type 0
Halts whom talk halt.ReadFault old new = IsUnread whom talk old new
Halts whom talk halt.WriteFault old new = IsUnwritten whom talk old new
Halts whom talk halt.NoMemory old new = Stops whom talk old new
Halts whom talk (halt.Unanswered request) old new = IsUnanswered whom talk request old new
Halts whom talk (halt.Malformed request) old new = Goes whom talk (end (malformed request)) old new
Halts whom talk (halt.Answered status request) old new = Goes whom talk (end (answered status request)) old new

-- what came of a part of a talk: it goes on with what was made, or it halted
abbrev pub Parts : {R T : Type 0} → Whom → (T → Talk (Ending R)) → Talk (Ending R) → Result T Halt → Line → Line → Type 0
Parts whom next talk (Ok x) old new = Goes whom talk (next x) old new
Parts whom next talk (Err h) old new = Halts whom talk h old new

-- what came of a whole talk: its result, or why it halted
abbrev pub Comes : {R : Type 0} → Whom → Talk (Ending R) → Result R Halt → Line → Line → Type 0
Comes whom talk result old new = Parts whom (λ x. end (done x)) talk result old new

-- what a step without the server does to a talk: it goes on with what was made, or a body hasn't its form
abbrev pub Steps : {R T : Type 0} → (T → Talk (Ending R)) → Talk (Ending R) → Result T Halt → Type 0
Steps next talk (Ok x) = talk ≡ next x
Steps next talk (Err halt.NoMemory) = Unit {0}
Steps next talk (Err (halt.Malformed request)) = talk ≡ end (malformed request)
Steps next talk (Err halt.ReadFault) = ⊥
Steps next talk (Err halt.WriteFault) = ⊥
Steps next talk (Err (halt.Unanswered request)) = ⊥
Steps next talk (Err (halt.Answered status request)) = ⊥
