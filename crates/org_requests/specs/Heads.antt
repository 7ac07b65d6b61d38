-- What the head of a request alone refuses, before anyone looks at its body or at a state.
use Rattle.std.specs.Prelude.{Bool, true, false, not, ℕ, List, [], ◌∷◌, Option, Some, None, nat_le}
use Rattle.org_requests.specs.declared.refusals.Refusal.{Refusal}
use Rattle.org_requests.specs.declared.refusals.Refusal.TheVariants.{TooLarge, VersionNotTaken, NotImplemented, NotFound, NotAllowed}
use Rattle.org_requests.specs.declared.requests.Place.{Place}
use Rattle.org_requests.specs.declared.requests.Place.TheVariants.{Of, Organisations, LeftOut, NoRoute, NoMethod, NoMemory}
use Rattle.org_requests.specs.declared.requests.Request.{Request}
use Rattle.org_requests.specs.Documents.{is_too_long}
use Rattle.org_requests.specs.Refusals.{refuses, first_some}

-- the version of the API is 0 or 1
abbrev pub is_taken : Option ℕ → Bool
is_taken None = false
is_taken (Some version) = nat_le version 1

-- the path is left out
abbrev pub is_left_out : Place → Bool
is_left_out (Of org route) = false
is_left_out Organisations = false
is_left_out LeftOut = true
is_left_out NoRoute = false
is_left_out (NoMethod org) = false
is_left_out NoMemory = false

-- no route has the path
abbrev pub is_no_route : Place → Bool
is_no_route (Of org route) = false
is_no_route Organisations = false
is_no_route LeftOut = false
is_no_route NoRoute = true
is_no_route (NoMethod org) = false
is_no_route NoMemory = false

-- a route has the path, and not the method
abbrev pub is_no_method : Place → Bool
is_no_method (Of org route) = false
is_no_method Organisations = false
is_no_method LeftOut = false
is_no_method NoRoute = false
is_no_method (NoMethod org) = true
is_no_method NoMemory = false

-- in this order
abbrev pub head_refusals : Request → List (Option Refusal)
head_refusals request =
    refuses TooLarge (is_too_long request.body)
    ∷ refuses VersionNotTaken (not (is_taken request.api))
    ∷ refuses NotImplemented (is_left_out request.place)
    ∷ refuses NotFound (is_no_route request.place)
    ∷ refuses NotAllowed (is_no_method request.place)
    ∷ []

-- the first that stands
abbrev pub head_refusal : Request → Option Refusal
head_refusal request = first_some (head_refusals request)
