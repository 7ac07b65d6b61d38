-- Refusals other than that of a missing permission.
use Rattle.std.specs.Prelude.{cond, nat_eq, IfSome, Result, Ok, Err}
use Rattle.org_requests.specs.declared.refusals.Refusal.{Refusal}
use Rattle.org_requests.specs.declared.requests.Request.{Request}
use Rattle.org_core.specs.Contexts.{Context}
use Rattle.org_requests.specs.Refusals.{status_of}
use Rattle.org_core.specs.Rules.{Rules}

-- the refusal is another than that of a missing permission, which alone has the status 403
abbrev pub IsPlain : Refusal → Type 0
IsPlain refusal = cond (nat_eq (status_of refusal) 403) ⊥ (Unit {0})

-- so is a refusal that may come of it
abbrev pub RefusesPlainly : {T : Type 0} → Result T Refusal → Type 0
RefusesPlainly (Ok value) = Unit {0}
RefusesPlainly (Err refusal) = IsPlain refusal

-- a group refuses for want of a permission by its needs alone: neither what is asked, nor its own refusals, nor what it does
-- says so
pub record NeverForbids {Route Operation : Type 0} (rules : Rules Route Operation) : Type 0 where
  pub operation : (context : Context) (route : Route) (request : Request) → RefusesPlainly (rules.operation context route request)
  pub own_refusal : (context : Context) (operation : Operation) → IfSome (rules.own_refusal context operation) IsPlain
  pub does : (context : Context) (operation : Operation) → RefusesPlainly (rules.does context operation).answer
