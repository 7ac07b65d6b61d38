-- What serving one request does: to what is kept of its organisation, and to the states of all.
use Rattle.std.specs.Prelude.{◌≡◌, ◌+◌, ◌⊎◌, if◌then◌else◌, ℕ, List, [], Option, Some, None}
use Rattle.org_core.specs.declared.moves.Move.{Move}
use Rattle.org_requests.specs.declared.replies.Reply.{Reply}
use Rattle.org_requests.specs.declared.requests.Request.{Request}
use Rattle.org_requests.specs.Requests.{org_of, is_of}
use Rattle.org_core.specs.Rooms.{HasRoom}
use Rattle.org_core.specs.Outcomes.{Decided, all_looks, outcome_of, LooksAtMost}
use Rattle.org_requests.specs.Refusals.{out_of_memory}
use Rattle.org_core.specs.FullStates.{FullState}
use Rattle.org_core.specs.States.{Kept}
use Rattle.org_machine.specs.declared.serving.Ready.{Ready}
use Rattle.org_machine.specs.Steps.{looks}
use Rattle.org_machine.specs.Marks.{mark_of, served, answer, after, IsLawful}
use Rattle.org_machine.specs.Alone.{Exchange, Alone, States, OutsideAnswer, states_after}

-- the reply says that all is well
abbrev pub IsGood : ℕ → Type 0
IsGood status = (status ≡ 200) ⊎ (status ≡ 201)

-- there is no move, or the reply is 200 or 201
abbrev pub ComesWith : ℕ → List Move → Type 0
ComesWith status moves = (moves ≡ []) ⊎ IsGood status

-- the reply is the one that is due, or tells of want of memory
abbrev pub IsOrShort : Reply → Reply → Type 0
IsOrShort reply due = (reply ≡ due) ⊎ (reply ≡ out_of_memory)

-- what is ready is what was decided; there is room for its moves, among the files for so many more, and it took all its
-- looks
pub record IsDue (finder_looks : ℕ → ℕ) (ready : Ready) (due : Decided) (kept : Kept) (spare before now : ℕ) : Type 0 where
  pub reply : ready.reply ≡ (outcome_of due.answer).reply
  pub moves : ready.moves ≡ (outcome_of due.answer).moves
  pub room : HasRoom ready.moves kept.objects kept.groups kept.shelves spare
  pub looked : now ≡ before + all_looks finder_looks due

-- what is ready tells of want of memory and makes no move, after some of the looks
pub record IsShort (finder_looks : ℕ → ℕ) (ready : Ready) (due : Decided) (before now : ℕ) : Type 0 where
  pub reply : ready.reply ≡ out_of_memory
  pub moves : ready.moves ≡ []
  pub looked : LooksAtMost (all_looks finder_looks due) before now

-- one of both
abbrev pub Does : (ℕ → ℕ) → Ready → Decided → Kept → ℕ → ℕ → ℕ → Type 0
Does finder_looks ready due kept spare before now = IsDue finder_looks ready due kept spare before now ⊎ IsShort finder_looks ready due before now

-- a request that is served looks at just the bodies that its step says, the finder's looks among them, and any other at
-- no more
pub record Looks (finder_looks : ℕ → ℕ) (reply : Reply) (request : Request) (state : FullState) (before now : ℕ) : Type 0 where
  pub exact : mark_of reply ≡ served → now ≡ before + looks finder_looks request state
  pub most : LooksAtMost (looks finder_looks request state) before now

-- a request of an organisation is answered from its state, and its mark is lawful there
abbrev pub OwnAnswer : States → Option (List ℕ) → Request → Reply → Type 0
OwnAnswer states None request reply = Unit {0}
OwnAnswer states (Some org) request reply =
    (reply ≡ answer (mark_of reply) request (states org)) × IsLawful (mark_of reply) request (states org)

-- the state of the organisation of this name after a request: what another one does leaves it as it was
abbrev pub state_then : List ℕ → Request → Reply → FullState → FullState
state_then name request reply state = if is_of name request then after (mark_of reply) request state else state

-- one request is served in these states
pub record Serves (old : States) (request : Request) (reply : Reply) (new : States) : Type 0 where
  pub own : OwnAnswer old (org_of request) request reply
  pub outside : OutsideAnswer old (org_of request) request reply
  pub states : (name : List ℕ) → new name ≡ state_then name request reply (old name)

-- these exchanges were answered as if each organisation were alone, and left these states
pub record Progress (opened : States) (exchanges : List Exchange) (now : States) : Type 0 where
  pub alone : Alone opened exchanges
  pub states : (name : List ℕ) → now name ≡ states_after opened exchanges name
