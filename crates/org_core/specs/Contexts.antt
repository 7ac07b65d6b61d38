-- What every part of a rule sees beside the route and the request: whose request it is, who asks, and the
-- organisation's full state.
use Rattle.std.specs.Prelude.{ℕ, List, Option}
use Rattle.object_finder.specs.Exact.{IsExact}
use Rattle.object_finder.specs.Held.{Held}
use Rattle.sandboxes.specs.Files.{holding_of}
use Rattle.sandboxes.specs.Sandboxes.{Holding}
use Rattle.org_core.specs.declared.contexts.Context.{Context as Lent}
use Rattle.org_core.specs.States.{State, objects_of, state_in}

-- the organisation's name, the caller, the organisation's state, and its files
pub record Context : Type 0 where
  pub org : List ℕ
  pub caller : Option (List ℕ)
  pub state : State
  pub files : Holding

-- what is lent is seen so
abbrev pub seen : Lent → Context
seen context = record { org = context.org.now; caller = context.caller.now; state = state_in context.state.now; files = holding_of context.files.now context.org.now }

-- what a finder holds is exact for the organisation's objects
abbrev pub IsExactIn : Option Held → Context → Type 0
IsExactIn held context = IsExact held context.org (objects_of context.state)

-- the same request in another state
abbrev pub in_state : State → Context → Context
in_state state context = record { org = context.org; caller = context.caller; state = state; files = context.files }
