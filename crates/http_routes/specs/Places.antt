-- Where a path points: the route that the table of routes has for its segments, with every name in it.
use Rattle.std.specs.Prelude.{Bool, true, false, ◌&&◌, ℕ, List, Option, Some, None, codes, cond}
use Rattle.doc_tree.specs.Doc.{Doc, null, boolean, whole, words, list, dict}
use Rattle.doc_tree.specs.Part.{pair_at}
use Rattle.doc_tree.specs.Tree.{doc_of}
use Rattle.doc_tree.specs.Name.{is_organisation_name}
use Rattle.org_requests.specs.declared.requests.Body.{Body}
use Rattle.org_requests.specs.declared.requests.Body.TheVariants.{Empty, Doc as Read, Bad, Raw, TooLong}
use Rattle.org_requests.specs.declared.requests.Place.{Place}
use Rattle.org_requests.specs.declared.requests.Place.TheVariants.{Of, Organisations, LeftOut, NoRoute, NoMethod, NoMemory}
use Rattle.org_requests.specs.declared.routes.OrganisationRoute.TheVariants.{Create}
use Rattle.org_requests.specs.declared.routes.RouteOf.{RouteOf}
use Rattle.org_requests.specs.declared.routes.RouteOf.TheVariants.{Organisation}
use Rattle.org_requests.specs.declared.verbs.Verb.{Verb}
use Rattle.org_requests.specs.LeftOut.{is_left_out}
use Rattle.org_requests.specs.Routes.{named, nth_segment}
use Rattle.org_requests.specs.Table.{Target, target_at, lists}
use Rattle.org_requests.specs.Verbs.{is_post}

-- the place of a path: a route of the organisation that it names, or `/organizations`
abbrev pub place_named : Option (RouteOf ℕ) → List (List ℕ) → Place
place_named None segments = Organisations
place_named (Some route) segments = Of (nth_segment 1 segments) (named (λ n. nth_segment n segments) route)

-- the organisation that a path names, if it is of one
abbrev pub org_named : Option (RouteOf ℕ) → List (List ℕ) → Option (List ℕ)
org_named None segments = None
org_named (Some route) segments = Some (nth_segment 1 segments)

-- the place of a path that the table has, by a method
abbrev pub place_by : Target → List (List ℕ) → Verb → Place
place_by target segments verb = cond (lists target.methods verb) (place_named target.route segments) (NoMethod (org_named target.route segments))

-- the place of what the table leads to, if it leads anywhere
abbrev pub place_found : Option Target → List (List ℕ) → Verb → Place
place_found None segments verb = NoRoute
place_found (Some target) segments verb = place_by target segments verb

-- the place that a path's segments name, by a method; a path without segments names none
abbrev pub place_of : Option (List (List ℕ)) → Verb → Place
place_of None verb = NoRoute
place_of (Some segments) verb = cond (is_left_out segments) LeftOut (place_found (target_at segments) segments verb)

-- an organisation's name
abbrev pub organisation_name_from : Option Doc → Option (List ℕ)
organisation_name_from None = None
organisation_name_from (Some (words name)) = cond (is_organisation_name name) (Some name) None
organisation_name_from (Some null) = None
organisation_name_from (Some (boolean b)) = None
organisation_name_from (Some (whole n)) = None
organisation_name_from (Some (list ds)) = None
organisation_name_from (Some (dict ps)) = None

-- the new organisation that a document names by its key `name`, whatever further keys it has
abbrev pub organisation_named : Doc → Option (List ℕ)
organisation_named (dict ps) = organisation_name_from (pair_at (codes "name") ps)
organisation_named null = None
organisation_named (boolean b) = None
organisation_named (whole n) = None
organisation_named (words w) = None
organisation_named (list ds) = None

-- the new organisation that a body names
abbrev pub organisation_in_body : Body → Option (List ℕ)
organisation_in_body Empty = None
organisation_in_body (Read tree) = organisation_named (doc_of tree)
organisation_in_body (Bad fault) = None
organisation_in_body (Raw file) = None
organisation_in_body TooLong = None

-- the creation of the organisation that was named, if one was
abbrev pub creation : Option (List ℕ) → Place
creation None = Organisations
creation (Some org) = Of org (Organisation Create)

-- the place is `/organizations`
abbrev pub is_organisations : Place → Bool
is_organisations (Of org route) = false
is_organisations Organisations = true
is_organisations LeftOut = false
is_organisations NoRoute = false
is_organisations (NoMethod org) = false
is_organisations NoMemory = false

-- the request creates an organisation, which its body names
abbrev pub is_creation : Place → Verb → Bool
is_creation place verb = is_organisations place && is_post verb

-- the place once the body is known: that of a creation is of the organisation that the body names
abbrev pub place_with : Place → Verb → Body → Place
place_with place verb body = cond (is_creation place verb) (creation (organisation_in_body body)) place
