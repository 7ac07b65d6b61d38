-- The request that the parts of a message spell: first its head, and then its body.
use Rattle.std.specs.Prelude.{ℕ, List}
use Rattle.org_requests.specs.declared.requests.Body.{Body}
use Rattle.org_requests.specs.declared.requests.Body.TheVariants.{Empty}
use Rattle.org_requests.specs.declared.requests.Request.{Request}
use Rattle.http_routes.specs.Verbs.{verb_named}
use Rattle.http_routes.specs.Headers.{caller_in, api_in}
use Rattle.http_routes.specs.Connections.{closes}
use Rattle.http_routes.specs.Targets.{target_segments}
use Rattle.http_routes.specs.Bodies.{body_in}
use Rattle.http_routes.specs.Parameters.{parameters_in}
use Rattle.http_routes.specs.Places.{place_of, place_with}

-- what a method, a target and the values of three headers say: a request without a body
abbrev pub head_in : List ℕ → List ℕ → List (List ℕ) → List (List ℕ) → List (List ℕ) → Request
head_in method target callers versions connections = record {
  caller = caller_in callers;
  api = api_in versions;
  verb = verb_named method;
  place = place_of (target_segments target) (verb_named method);
  parameters = parameters_in target;
  body = Empty;
  close = closes connections;
}

-- the request of a head and a body
abbrev pub request_with : Request → Body → Request
request_with head body = record head {
  place = place_with head.place head.verb body;
  body = body;
}

-- the request of a head and the bytes of a body
abbrev pub request_of : Request → List ℕ → Request
request_of head bytes = request_with head (body_in head bytes)

-- the request that a method, a target, the values of three headers and the bytes of a body spell
abbrev pub request_from : List ℕ → List ℕ → List (List ℕ) → List (List ℕ) → List (List ℕ) → List ℕ → Request
request_from method target callers versions connections bytes =
    request_of (head_in method target callers versions connections) bytes
