-- Which organisation a request is of, who asks, and what may be read in the place of a request.
use Rattle.std.specs.Prelude.{◌≡◌, Bool, false, ℕ, List, Option, Some, None, bytes_eq, codes}
use Rattle.org_requests.specs.declared.requests.Place.{Place}
use Rattle.org_requests.specs.declared.requests.Place.TheVariants.{Of, Organisations, LeftOut, NoRoute, NoMethod, NoMemory}
use Rattle.org_requests.specs.declared.requests.Request.{Request}

-- the organisation that a place is of
abbrev pub org_at : Place → Option (List ℕ)
org_at (Of org route) = Some org
org_at Organisations = None
org_at LeftOut = None
org_at NoRoute = None
org_at (NoMethod org) = org
org_at NoMemory = None

-- the organisation that a request is of
abbrev pub org_of : Request → Option (List ℕ)
org_of request = org_at request.place

-- an organisation, if any, has this name
abbrev pub has_name : List ℕ → Option (List ℕ) → Bool
has_name name None = false
has_name name (Some org) = bytes_eq name org

-- the request is of the organisation of this name
abbrev pub is_of : List ℕ → Request → Bool
is_of name request = has_name name (org_of request)

-- the caller is the operator
abbrev pub is_operator : Option (List ℕ) → Bool
is_operator None = false
is_operator (Some caller) = bytes_eq caller (codes "pivotal")

-- a request that was read is the one that was spelled, unless its place is that its parts found no memory
abbrev pub IsReadAt : Place → Request → Request → Type 0
IsReadAt (Of org route) read spelled = read ≡ spelled
IsReadAt Organisations read spelled = read ≡ spelled
IsReadAt LeftOut read spelled = read ≡ spelled
IsReadAt NoRoute read spelled = read ≡ spelled
IsReadAt (NoMethod org) read spelled = read ≡ spelled
IsReadAt NoMemory read spelled = Unit {0}

-- a request that was read stands for the one that its bytes spell
abbrev pub IsRead : Request → Request → Type 0
IsRead read spelled = IsReadAt read.place read spelled
