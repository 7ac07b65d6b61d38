-- The requests of a demo of one size: the organisations are created, and then a hundred turns are taken for each.
use Rattle.std.specs.Prelude.{ℕ, ◌+◌, ◌-◌, ◌*◌, nat_lt, List, [], ◌∷◌, ◌++◌, true, false, Some, map, cond, codes, decimal}
use Rattle.std.specs.List.{range_with_len}
use Rattle.doc_tree.specs.Doc.{Doc, words, dict, pairs_of}
use Rattle.doc_tree.specs.Tree.{tree_of}
use Rattle.org_requests.specs.declared.verbs.Verb.{Verb}
use Rattle.org_requests.specs.declared.verbs.Verb.TheVariants.{Get, Post, Put, Delete}
use Rattle.org_requests.specs.declared.collections.Collection.TheVariants.{Nodes}
use Rattle.org_requests.specs.declared.requests.Body.{Body}
use Rattle.org_requests.specs.declared.requests.Body.TheVariants.{Empty, Doc as Read}
use Rattle.org_requests.specs.declared.requests.Parameter.{Parameter}
use Rattle.org_requests.specs.declared.requests.Place.TheVariants.{Of}
use Rattle.org_requests.specs.declared.requests.Request.{Request}
use Rattle.org_requests.specs.declared.routes.ObjectsRouteOf.TheVariants.{All, One}
use Rattle.org_requests.specs.declared.routes.OrganisationRoute.TheVariants as organisation_route
use Rattle.org_requests.specs.Routes.{Route}
use Rattle.org_requests.specs.declared.routes.RouteOf.TheVariants.{Organisation, Objects, Search as Searches}
use Rattle.org_requests.specs.declared.routes.SearchRouteOf.TheVariants.{Index}
use Rattle.demo_requests.specs.declared.turns.Deed.{Deed}
use Rattle.demo_requests.specs.declared.turns.Deed.TheVariants.{Create, Show, Remove, Search, Replace}
use Rattle.demo_requests.specs.declared.turns.Turn.{Turn}
use Rattle.demo_requests.specs.Turns.{turn}

-- who asks
abbrev pub operator : List ℕ
operator = codes "pivotal"

-- the name of the organisation of this number
abbrev pub organisation : ℕ → List ℕ
organisation number = codes "o" ++ decimal number

-- the name of the node of this number
abbrev pub node : ℕ → List ℕ
node number = codes "n" ++ decimal number

-- the tag of this number
abbrev pub tag : ℕ → List ℕ
tag number = codes "t" ++ decimal number

-- the query that finds what has this tag
abbrev pub query : List ℕ → List ℕ
query tag = codes "tag:" ++ tag

-- the one field with this key and this text
abbrev pub one_text : List ℕ → List ℕ → List (List ℕ × Doc)
one_text key text = (key, words text) ∷ []

-- the body that creates the organisation of this name
abbrev pub named : List ℕ → Doc
named name = dict (pairs_of (one_text (codes "name") name))

-- the body of the node of this name with this tag
abbrev pub tagged : List ℕ → List ℕ → Doc
tagged name tag =
    dict (pairs_of ((codes "automatic", dict (pairs_of (one_text (codes "tag") tag))) ∷ (codes "name", words name) ∷ []))

-- that body, as a request has it
abbrev pub node_body : List ℕ → List ℕ → Body
node_body name tag = Read (tree_of (tagged name tag))

-- the operator asks this of an organisation, in version 0 of the API
abbrev pub asks : Verb → List ℕ → Route → List Parameter → Body → Request
asks verb org route parameters body = record {
  caller = Some operator;
  api = Some 0;
  verb = verb;
  place = Of org route;
  parameters = parameters;
  body = body;
  close = false;
}

-- an organisation is created by a POST of its name to `/organizations`
abbrev pub creation : List ℕ → Request
creation org = asks Post org (Organisation organisation_route.Create) [] (Read (tree_of (named org)))

-- `nodes` of an organisation, and one of them
abbrev pub nodes : Route
nodes = Objects Nodes All

abbrev pub node_named : List ℕ → Route
node_named name = Objects Nodes (One name)

-- the one parameter of a search
abbrev pub parameter : List ℕ → Parameter
parameter query = record { name = codes "q"; value = query }

-- a search of an organisation's nodes for those with this tag
abbrev pub search : List ℕ → List ℕ → Request
search org tag = asks Get org (Searches (Index (codes "node"))) (parameter (query tag) ∷ []) Empty

-- a deed, done to the node of this name, by this tag
abbrev pub asks_by : Deed → List ℕ → List ℕ → List ℕ → Request
asks_by Create org name tag = asks Post org nodes [] (node_body name tag)
asks_by Show org name tag = asks Get org (node_named name) [] Empty
asks_by Remove org name tag = asks Delete org (node_named name) [] Empty
asks_by Search org name tag = search org tag
asks_by Replace org name tag = asks Put org (node_named name) [] (node_body name tag)

-- the request of a turn
abbrev pub turn_request : Turn → Request
turn_request turn = asks_by turn.deed (organisation turn.organisation) (node turn.node) (tag turn.tag)

-- the request behind so many others in a demo of this size: the first create the organisations `o1`, `o2` and so on, and each of the others is a turn
abbrev pub request : ℕ → ℕ → Request
request size number = cond (nat_lt number size) (creation (organisation (number + 1))) (turn_request (turn size (number - size)))

-- so many requests, behind so many others
abbrev pub requests : ℕ → ℕ → ℕ → List Request
requests size number count = map (request size) (range_with_len number count)

-- how many requests a demo of this size has: a creation and a hundred turns for each of its organisations
abbrev pub length_of : ℕ → ℕ
length_of size = 101 * size

-- the requests of a demo of this size
abbrev pub demo_requests : ℕ → List Request
demo_requests size = requests size 0 (length_of size)
