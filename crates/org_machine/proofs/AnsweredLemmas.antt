-- What the rules of a group keep, the order of refusals over them keeps.
use Rattle.std.proofs.Common.{◌≡◌, Bool, true, false, Option, Some, None, Result, Ok, Err, refl}
use Rattle.org_requests.specs.declared.refusals.Refusal.{Refusal}
use Rattle.org_requests.specs.declared.refusals.Refusal.TheVariants.{NotFound}
use Rattle.org_requests.specs.declared.requests.Request.{Request}
use Rattle.org_core.specs.Conditions.{MeetsConditions}
use Rattle.org_core.specs.Contexts.{Context}
use Rattle.org_core.specs.Keeping.{LeadsToConditions, KeepsConditions}
use Rattle.org_core.specs.Needs.{lacking}
use Rattle.org_core.specs.Outcomes.{Decided, unless}
use Rattle.org_requests.specs.Refusals.{refuses}
use Rattle.org_core.specs.Rules.{Rules}
use Rattle.org_core.specs.States.{State}
use Rattle.org_machine.specs.Order.{done_by, permitted, found, by_operation, answered_by}

-- a refusal changes nothing, and where none stands what was decided leads to a state that meets the conditions
pub unless_keeps : (state : State) (refusal : Option Refusal) (done : Decided) → MeetsConditions state → (refusal ≡ None → LeadsToConditions state done) → LeadsToConditions state (unless refusal done)
unless_keeps state None done meets keeps = keeps refl
unless_keeps state (Some refusal) done meets keeps = meets

not_refused : (refusal : Refusal) (b : Bool) → refuses refusal b ≡ None → b ≡ false
not_refused refusal true is = cc
not_refused refusal false is = refl

module _ {Route Operation : Type 0} where
  by_operation_keeps : (Asks : Context → Type 0) (rules : Rules Route Operation) → KeepsConditions Asks rules → (context : Context) (route : Route) (request : Request) (asked : Result Operation Refusal) → MeetsConditions context.state → Asks context
      → rules.operation context route request ≡ asked → LeadsToConditions context.state (by_operation rules context asked)
  by_operation_keeps Asks rules keeps context route request (Err refusal) meets asks is = meets
  by_operation_keeps Asks rules keeps context route request (Ok operation) meets asks is =
      unless_keeps context.state (refuses NotFound (rules.lacks context operation)) (found rules context operation) meets
      (λ there. unless_keeps context.state (lacking context (rules.needs context operation)) (permitted rules context operation) meets
      (λ _. unless_keeps context.state (rules.own_refusal context operation) (done_by rules context operation) meets
      (λ free. keeps context route request operation meets asks is (not_refused NotFound (rules.lacks context operation) there) free)))

  -- what is decided at a route of a group that keeps the conditions keeps them
  pub answered_keeps : (Asks : Context → Type 0) (rules : Rules Route Operation) → KeepsConditions Asks rules → (context : Context) (route : Route) (request : Request) → MeetsConditions context.state → Asks context
      → LeadsToConditions context.state (answered_by rules context route request)
  answered_keeps Asks rules keeps context route request meets asks = by_operation_keeps Asks rules keeps context route request (rules.operation context route request) meets asks refl
