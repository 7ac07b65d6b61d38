-- Routes: in a request each name is a text, and in the table of routes the number of the segment that has it.
use Rattle.std.specs.Prelude.{ℕ, List, [], slice_get, unwrap_or}
use Rattle.org_requests.specs.declared.routes.ObjectsRouteOf.{ObjectsRouteOf}
use Rattle.org_requests.specs.declared.routes.DataRouteOf.{DataRouteOf}
use Rattle.org_requests.specs.declared.routes.AccessRouteOf.{AccessRouteOf}
use Rattle.org_requests.specs.declared.routes.CookbookRouteOf.{CookbookRouteOf}
use Rattle.org_requests.specs.declared.routes.PolicyRouteOf.{PolicyRouteOf}
use Rattle.org_requests.specs.declared.routes.SearchRouteOf.{SearchRouteOf}
use Rattle.org_requests.specs.declared.routes.ObjectsRouteOf.TheVariants.{All, One}
use Rattle.org_requests.specs.declared.routes.DataRouteOf.TheVariants.{Bags, Bag, Item}
use Rattle.org_requests.specs.declared.routes.AccessRouteOf.TheVariants as access
use Rattle.org_requests.specs.declared.routes.CookbookRouteOf.TheVariants as cookbook
use Rattle.org_requests.specs.declared.routes.PolicyRouteOf.TheVariants as policy
use Rattle.org_requests.specs.declared.routes.SearchRouteOf.TheVariants as search
use Rattle.org_requests.specs.declared.routes.RouteOf.{RouteOf}
use Rattle.org_requests.specs.declared.routes.RouteOf.TheVariants.{Organisation, Objects, Data, Access, Cookbooks, Policies, Search}

-- a route of a collection of objects in a request
abbrev pub ObjectsRoute : Type 0
ObjectsRoute = ObjectsRouteOf (List ℕ)

-- a route of data bags in a request
abbrev pub DataRoute : Type 0
DataRoute = DataRouteOf (List ℕ)

-- a route of those who may do something, and of what they may do in a request
abbrev pub AccessRoute : Type 0
AccessRoute = AccessRouteOf (List ℕ)

-- a route of files and cookbooks in a request
abbrev pub CookbookRoute : Type 0
CookbookRoute = CookbookRouteOf (List ℕ)

-- a route of artifacts, policies and their groups in a request
abbrev pub PolicyRoute : Type 0
PolicyRoute = PolicyRouteOf (List ℕ)

-- a route of searches in a request
abbrev pub SearchRoute : Type 0
SearchRoute = SearchRouteOf (List ℕ)

-- a route below one organisation in a request
abbrev pub Route : Type 0
Route = RouteOf (List ℕ)

-- the segment of this number of a path, counted from 0, and empty where it has fewer
abbrev pub nth_segment : ℕ → List (List ℕ) → List ℕ
nth_segment n segments = unwrap_or (slice_get segments n) []

-- of objects, with what is at each number in its place
abbrev pub named_objects : (ℕ → List ℕ) → ObjectsRouteOf ℕ → ObjectsRouteOf (List ℕ)
named_objects at All = All
named_objects at (One name) = One (at name)

-- of data bags, with what is at each number in its place
abbrev pub named_data : (ℕ → List ℕ) → DataRouteOf ℕ → DataRouteOf (List ℕ)
named_data at Bags = Bags
named_data at (Bag bag) = Bag (at bag)
named_data at (Item bag id) = Item (at bag) (at id)

-- of groups, users, containers and access lists, with what is at each number in its place
abbrev pub named_access : (ℕ → List ℕ) → AccessRouteOf ℕ → AccessRouteOf (List ℕ)
named_access at access.Groups = access.Groups
named_access at (access.Group name) = access.Group (at name)
named_access at access.Users = access.Users
named_access at (access.User name) = access.User (at name)
named_access at access.Containers = access.Containers
named_access at (access.Container name) = access.Container (at name)
named_access at (access.List collection name) = access.List (at collection) (at name)
named_access at (access.Entry collection name permission) = access.Entry (at collection) (at name) (at permission)

-- of files and cookbooks, with what is at each number in its place
abbrev pub named_cookbook : (ℕ → List ℕ) → CookbookRouteOf ℕ → CookbookRouteOf (List ℕ)
named_cookbook at cookbook.Sandboxes = cookbook.Sandboxes
named_cookbook at (cookbook.Sandbox id) = cookbook.Sandbox (at id)
named_cookbook at (cookbook.File checksum) = cookbook.File (at checksum)
named_cookbook at cookbook.Cookbooks = cookbook.Cookbooks
named_cookbook at (cookbook.Cookbook name) = cookbook.Cookbook (at name)
named_cookbook at (cookbook.Version name version) = cookbook.Version (at name) (at version)
named_cookbook at cookbook.Universe = cookbook.Universe
named_cookbook at (cookbook.SolvedVersions environment) = cookbook.SolvedVersions (at environment)

-- of artifacts, policies and their groups, with what is at each number in its place
abbrev pub named_policy : (ℕ → List ℕ) → PolicyRouteOf ℕ → PolicyRouteOf (List ℕ)
named_policy at policy.Artifacts = policy.Artifacts
named_policy at (policy.Artifact name id) = policy.Artifact (at name) (at id)
named_policy at policy.Policies = policy.Policies
named_policy at (policy.Policy name) = policy.Policy (at name)
named_policy at (policy.Revisions name) = policy.Revisions (at name)
named_policy at (policy.Revision name revision) = policy.Revision (at name) (at revision)
named_policy at policy.Groups = policy.Groups
named_policy at (policy.Group name) = policy.Group (at name)
named_policy at (policy.Assignment group name) = policy.Assignment (at group) (at name)

-- of searches, with what is at each number in its place
abbrev pub named_search : (ℕ → List ℕ) → SearchRouteOf ℕ → SearchRouteOf (List ℕ)
named_search at search.Indexes = search.Indexes
named_search at (search.Index word) = search.Index (at word)

-- the route, with what is at each number in its place
abbrev pub named : (ℕ → List ℕ) → RouteOf ℕ → RouteOf (List ℕ)
named at (Organisation route) = Organisation route
named at (Objects collection route) = Objects collection (named_objects at route)
named at (Data route) = Data (named_data at route)
named at (Access route) = Access (named_access at route)
named at (Cookbooks route) = Cookbooks (named_cookbook at route)
named at (Policies route) = Policies (named_policy at route)
named at (Search route) = Search (named_search at route)
