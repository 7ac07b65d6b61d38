-- The order of refusals behind the head, once for every route, over the rules of its group.
use Rattle.std.specs.Prelude.{Bool, not, ◌&&◌, List, [], ◌∷◌, Option, Result, Ok, Err, is_some}
use Rattle.org_requests.specs.declared.refusals.Refusal.{Refusal}
use Rattle.org_requests.specs.declared.refusals.Refusal.TheVariants.{NotFound, UnknownCaller}
use Rattle.org_requests.specs.declared.requests.Request.{Request}
use Rattle.org_core.specs.Contexts.{Context}
use Rattle.org_core.specs.Needs.{is_known, lacking}
use Rattle.org_core.specs.Outcomes.{Decided, unless, refuse, searching}
use Rattle.org_requests.specs.Refusals.{refuses, first_some}
use Rattle.org_core.specs.Rules.{Rules}

-- where the organisation has to be there: 404 where it isn't, and then 401 where nobody there knows the caller
abbrev pub absence_refusals : Bool → Context → List (Option Refusal)
absence_refusals asks_for_it context =
    refuses NotFound (asks_for_it && not (is_some context.state))
    ∷ refuses UnknownCaller (asks_for_it && not (is_known context))
    ∷ []

-- the first of them that stands
abbrev pub absence_refusal : Bool → Context → Option Refusal
absence_refusal asks_for_it context = first_some (absence_refusals asks_for_it context)

module _ {Route Operation : Type 0} where
  -- what the group does, and which index is searched for it
  abbrev pub done_by : Rules Route Operation → Context → Operation → Decided
  done_by rules context operation = searching (rules.searches context operation) (rules.does context operation)

  -- the caller may do it: what the group itself refuses, in the order of the table of routes
  abbrev pub permitted : Rules Route Operation → Context → Operation → Decided
  permitted rules context operation = unless (rules.own_refusal context operation) (done_by rules context operation)

  -- the object is there: 403 where a permission is missing
  abbrev pub found : Rules Route Operation → Context → Operation → Decided
  found rules context operation = unless (lacking context (rules.needs context operation)) (permitted rules context operation)

  -- the request was read: 404 where the object that the path names isn't there
  abbrev pub operated : Rules Route Operation → Context → Operation → Decided
  operated rules context operation = unless (refuses NotFound (rules.lacks context operation)) (found rules context operation)

  -- 400 where the parameters or the body haven't their form
  abbrev pub by_operation : Rules Route Operation → Context → Result Operation Refusal → Decided
  by_operation rules context (Err refusal) = refuse refusal
  by_operation rules context (Ok operation) = operated rules context operation

  -- what is decided at a route of the group
  abbrev pub answered_by : Rules Route Operation → Context → Route → Request → Decided
  answered_by rules context route request = by_operation rules context (rules.operation context route request)
