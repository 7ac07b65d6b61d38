-- How the body of a request is read: by its place and its method, once its head is known.
use Rattle.std.specs.Prelude.{Bool, true, false, ◌||◌, not, ℕ, List, length, nat_lt, Result, Ok, Err, is_some, cond, if◌then◌else◌}
use Rattle.doc_tree.specs.Doc.{Doc}
use Rattle.doc_tree.specs.Tree.{tree_of}
use Rattle.doc_tree.specs.Read.{reads}
use Rattle.doc_tree.specs.declared.read.ReadFault.{ReadFault}
use Rattle.doc_tree.specs.declared.read.ReadFault.TheVariants.{NotJson, TooDeep, NotWhole, NoMemory as NoMemoryToRead}
use Rattle.org_requests.specs.declared.requests.BadBody.TheVariants as bad
use Rattle.org_requests.specs.declared.requests.Body.{Body}
use Rattle.org_requests.specs.declared.requests.Body.TheVariants.{Empty, Doc as Read, Bad, Raw as Sent, TooLong}
use Rattle.org_requests.specs.declared.requests.Place.{Place}
use Rattle.org_requests.specs.declared.requests.Place.TheVariants.{Of, Organisations, LeftOut, NoRoute, NoMethod, NoMemory}
use Rattle.org_requests.specs.declared.requests.Request.{Request}
use Rattle.org_requests.specs.Routes.{CookbookRoute}
use Rattle.org_requests.specs.declared.routes.CookbookRouteOf.TheVariants.{File}
use Rattle.org_requests.specs.Routes.{Route}
use Rattle.org_requests.specs.declared.routes.RouteOf.TheVariants.{Cookbooks}
use Rattle.org_requests.specs.Heads.{head_refusal}
use Rattle.org_requests.specs.declared.verbs.Verb.{Verb}
use Rattle.org_requests.specs.declared.verbs.Verb.TheVariants.{Get, Post, Put, Delete, Other}
use Rattle.http_routes.specs.declared.bodies.BodyForm.{BodyForm}
use Rattle.http_routes.specs.declared.bodies.BodyForm.TheVariants.{Dropped, Json, Raw}
use Rattle.http_routes.specs.Places.{is_creation}

-- the most bytes of a body that is looked at
abbrev pub most_body : ℕ
most_body = 4194304

-- the route is that of a file
abbrev pub is_file_route : CookbookRoute → Bool
is_file_route (File checksum) = true
is_file_route _ = false

-- and so of all routes
abbrev pub is_file_below : Route → Bool
is_file_below (Cookbooks route) = is_file_route route
is_file_below _ = false

-- the place is that of a file of an organisation
abbrev pub is_file : Place → Bool
is_file (Of org route) = is_file_below route
is_file Organisations = false
is_file LeftOut = false
is_file NoRoute = false
is_file (NoMethod org) = false
is_file NoMemory = false

-- the form of the body that is sent to a place by a method: by PUT to a file its bytes, else JSON (RFC 8259) by POST and
-- PUT, and else dropped
abbrev pub form_at : Place → Verb → BodyForm
form_at place Get = Dropped
form_at place Post = Json
form_at place Put = cond (is_file place) Raw Json
form_at place Delete = Dropped
form_at place Other = Dropped

-- the body is looked at: the head alone doesn't refuse the request, or it is the body that tells whose
-- request it is
abbrev pub is_looked_at : Request → Bool
is_looked_at head = is_creation head.place head.verb || not (is_some (head_refusal head))

-- the form of the body behind a head
abbrev pub form_in : Request → BodyForm
form_in head = cond (is_looked_at head) (form_at head.place head.verb) Dropped

-- the tree that was read, or the fault. No bytes read as want of memory, which is a fault of the reading alone
abbrev pub body_from : Result Doc ReadFault → Body
body_from (Ok doc) = Read (tree_of doc)
body_from (Err NotJson) = Bad bad.NotJson
body_from (Err TooDeep) = Bad bad.TooDeep
body_from (Err NotWhole) = Bad bad.NotWhole
body_from (Err NoMemoryToRead) = Bad bad.NotJson

-- a body that isn't too long, by its form
abbrev pub short_body : BodyForm → List ℕ → Body
short_body Dropped bytes = Empty
short_body Json bytes = body_from (reads bytes)
short_body Raw bytes = Sent bytes

-- a body, by its form
abbrev pub body_as : BodyForm → List ℕ → Body
body_as form bytes = if nat_lt most_body (length bytes) then TooLong else short_body form bytes

-- the body behind a head
abbrev pub body_in : Request → List ℕ → Body
body_in head bytes = body_as (form_in head) bytes
