-- The rules of a group of routes: all that one group adds to the order of refusals.
use Rattle.std.specs.Prelude.{ℕ, Bool, List, Option, Result}
use Rattle.org_core.specs.declared.needs.Need.{Need}
use Rattle.org_requests.specs.declared.refusals.Refusal.{Refusal}
use Rattle.org_requests.specs.declared.requests.Request.{Request}
use Rattle.org_core.specs.Contexts.{Context}
use Rattle.org_core.specs.Outcomes.{Decided}

-- by the routes of a group and its operations, of which the table of routes has one for each path and method
pub record Rules (Route Operation : Type 0) : Type 0 where
  -- what the method, the parameters and the body ask for, or why they ask for nothing
  pub operation : Context → Route → Request → Result Operation Refusal
  -- the object that the path names isn't there
  pub lacks : Context → Operation → Bool
  -- the permissions that the caller needs, in order
  pub needs : Context → Operation → List Need
  -- the first refusal of the group's own that stands
  pub own_refusal : Context → Operation → Option Refusal
  -- of how many objects the index is that a finder searches for it, where one does
  pub searches : Context → Operation → Option ℕ
  -- what is done where nothing refuses it. A refusal that takes work to find may be found here
  pub does : Context → Operation → Decided
