-- The table of routes: each path, with the route that it is and the methods that it has.
use Rattle.std.specs.Prelude.{Bool, true, false, ℕ, List, [], ◌∷◌, ◌++◌, Option, Some, None, map, codes, if◌then◌else◌}
use Rattle.std.specs.List.{list_all}
use denote.Enum.Bare.{sameb}
use Rattle.org_requests.specs.declared.collections.Collection.TheVariants.{Nodes, Roles, Environments, Clients}
use Rattle.org_requests.specs.declared.routes.AccessRouteOf.TheVariants as access
use Rattle.org_requests.specs.declared.routes.CookbookRouteOf.TheVariants as cookbook
use Rattle.org_requests.specs.declared.routes.DataRouteOf.TheVariants.{Bags, Bag, Item}
use Rattle.org_requests.specs.declared.routes.ObjectsRouteOf.TheVariants.{All, One}
use Rattle.org_requests.specs.declared.routes.OrganisationRoute.TheVariants.{Whole}
use Rattle.org_requests.specs.declared.routes.PolicyRouteOf.TheVariants as policy
use Rattle.org_requests.specs.declared.routes.RouteOf.{RouteOf}
use Rattle.org_requests.specs.declared.routes.RouteOf.TheVariants.{Organisation, Objects, Data, Access, Cookbooks, Policies, Search}
use Rattle.org_requests.specs.declared.routes.SearchRouteOf.TheVariants as search
use Rattle.org_requests.specs.declared.table.Row.{Row}
use Rattle.org_requests.specs.declared.verbs.Verb.{Verb}
use Rattle.org_requests.specs.declared.verbs.Verb.TheVariants.{Get, Post, Put, Delete}
use Rattle.org_requests.specs.contracts.verbs.Verb.{the_type as verbs}
use Rattle.org_requests.specs.Patterns.{Part, fixed, any, Table, is_segment, parts_in, route_of}

-- what a path of the table leads to: a route, by the numbers of the segments that have its names, unless the path is of no
-- organisation; and the methods that it has
pub record Target : Type 0 where
  pub route : Option (RouteOf ℕ)
  pub methods : List Verb

-- a row of the table: a pattern, and what it leads to
pub record TableRow : Type 0 where
  pub pattern : List Part
  pub target : Target

-- a row, by its columns
abbrev pub row : List Part → Option (RouteOf ℕ) → List Verb → TableRow
row pattern route methods = record {
  pattern = pattern;
  target = record { route = route; methods = methods };
}

-- `/organizations/ORG` and what follows it
abbrev pub within : List Part → List Part
within rest = fixed (codes "organizations") ∷ any ∷ rest

-- the row of a path below `/organizations/ORG`
abbrev pub below : List Part → RouteOf ℕ → List Verb → TableRow
below rest route methods = row (within rest) (Some route) methods

-- the collections whose objects have access lists
abbrev pub collections : List (List ℕ)
collections =
    codes "nodes" ∷ codes "roles" ∷ codes "environments" ∷ codes "clients" ∷ codes "groups"
    ∷ codes "containers" ∷ codes "data" ∷ codes "cookbooks" ∷ codes "cookbook_artifacts"
    ∷ codes "policies" ∷ codes "policy_groups" ∷ []

-- the access list of an object of this collection
abbrev pub access_list : List ℕ → TableRow
access_list collection =
    below (fixed collection ∷ any ∷ fixed (codes "_acl") ∷ []) (Access (access.List 2 3)) (Get ∷ [])

-- one permission in the access list of an object of this collection
abbrev pub access_entry : List ℕ → TableRow
access_entry collection =
    below (fixed collection ∷ any ∷ fixed (codes "_acl") ∷ any ∷ []) (Access (access.Entry 2 3 5)) (Put ∷ [])

-- access lists
abbrev pub access_lists : List TableRow
access_lists = map access_list collections ++ map access_entry collections

-- organisations
abbrev pub organisations : List TableRow
organisations =
    row (fixed (codes "organizations") ∷ []) None (Get ∷ Post ∷ [])
    ∷ below [] (Organisation Whole) (Get ∷ [])
    ∷ []

-- nodes, roles, environments, clients and groups
abbrev pub objects : List TableRow
objects =
    below (fixed (codes "nodes") ∷ []) (Objects Nodes All) (Get ∷ Post ∷ [])
    ∷ below (fixed (codes "roles") ∷ []) (Objects Roles All) (Get ∷ Post ∷ [])
    ∷ below (fixed (codes "environments") ∷ []) (Objects Environments All) (Get ∷ Post ∷ [])
    ∷ below (fixed (codes "clients") ∷ []) (Objects Clients All) (Get ∷ Post ∷ [])
    ∷ below (fixed (codes "groups") ∷ []) (Access access.Groups) (Get ∷ Post ∷ [])
    ∷ below (fixed (codes "nodes") ∷ any ∷ []) (Objects Nodes (One 3)) (Get ∷ Put ∷ Delete ∷ [])
    ∷ below (fixed (codes "roles") ∷ any ∷ []) (Objects Roles (One 3)) (Get ∷ Put ∷ Delete ∷ [])
    ∷ below (fixed (codes "environments") ∷ any ∷ []) (Objects Environments (One 3)) (Get ∷ Put ∷ Delete ∷ [])
    ∷ below (fixed (codes "clients") ∷ any ∷ []) (Objects Clients (One 3)) (Get ∷ Put ∷ Delete ∷ [])
    ∷ below (fixed (codes "groups") ∷ any ∷ []) (Access (access.Group 3)) (Get ∷ Put ∷ Delete ∷ [])
    ∷ []

-- the users of an organisation, and its containers
abbrev pub members : List TableRow
members =
    below (fixed (codes "users") ∷ []) (Access access.Users) (Get ∷ Post ∷ [])
    ∷ below (fixed (codes "users") ∷ any ∷ []) (Access (access.User 3)) (Get ∷ Delete ∷ [])
    ∷ below (fixed (codes "containers") ∷ []) (Access access.Containers) (Get ∷ [])
    ∷ below (fixed (codes "containers") ∷ any ∷ []) (Access (access.Container 3)) (Get ∷ [])
    ∷ []

-- data bags and their items
abbrev pub bags : List TableRow
bags =
    below (fixed (codes "data") ∷ []) (Data Bags) (Get ∷ Post ∷ [])
    ∷ below (fixed (codes "data") ∷ any ∷ []) (Data (Bag 3)) (Get ∷ Post ∷ Delete ∷ [])
    ∷ below (fixed (codes "data") ∷ any ∷ any ∷ []) (Data (Item 3 4)) (Get ∷ Put ∷ Delete ∷ [])
    ∷ []

-- sandboxes and files
abbrev pub files : List TableRow
files =
    below (fixed (codes "sandboxes") ∷ []) (Cookbooks cookbook.Sandboxes) (Post ∷ [])
    ∷ below (fixed (codes "sandboxes") ∷ any ∷ []) (Cookbooks (cookbook.Sandbox 3)) (Put ∷ [])
    ∷ below (fixed (codes "files") ∷ any ∷ []) (Cookbooks (cookbook.File 3)) (Put ∷ Get ∷ [])
    ∷ []

-- cookbooks, their artifacts, and the versions that a run list needs
abbrev pub cookbooks : List TableRow
cookbooks =
    below (fixed (codes "cookbooks") ∷ []) (Cookbooks cookbook.Cookbooks) (Get ∷ [])
    ∷ below (fixed (codes "cookbooks") ∷ any ∷ []) (Cookbooks (cookbook.Cookbook 3)) (Get ∷ [])
    ∷ below (fixed (codes "cookbooks") ∷ any ∷ any ∷ []) (Cookbooks (cookbook.Version 3 4)) (Get ∷ Put ∷ Delete ∷ [])
    ∷ below (fixed (codes "universe") ∷ []) (Cookbooks cookbook.Universe) (Get ∷ [])
    ∷ below (fixed (codes "cookbook_artifacts") ∷ []) (Policies policy.Artifacts) (Get ∷ [])
    ∷ below (fixed (codes "cookbook_artifacts") ∷ any ∷ any ∷ []) (Policies (policy.Artifact 3 4)) (Get ∷ Put ∷ Delete ∷ [])
    ∷ below (fixed (codes "environments") ∷ any ∷ fixed (codes "cookbook_versions") ∷ []) (Cookbooks (cookbook.SolvedVersions 3)) (Post ∷ [])
    ∷ []

-- policies and their groups
abbrev pub policies : List TableRow
policies =
    below (fixed (codes "policies") ∷ []) (Policies policy.Policies) (Get ∷ [])
    ∷ below (fixed (codes "policies") ∷ any ∷ []) (Policies (policy.Policy 3)) (Get ∷ Delete ∷ [])
    ∷ below (fixed (codes "policies") ∷ any ∷ fixed (codes "revisions") ∷ []) (Policies (policy.Revisions 3)) (Post ∷ [])
    ∷ below (fixed (codes "policies") ∷ any ∷ fixed (codes "revisions") ∷ any ∷ []) (Policies (policy.Revision 3 5)) (Get ∷ [])
    ∷ below (fixed (codes "policy_groups") ∷ []) (Policies policy.Groups) (Get ∷ [])
    ∷ below (fixed (codes "policy_groups") ∷ any ∷ []) (Policies (policy.Group 3)) (Get ∷ Delete ∷ [])
    ∷ below (fixed (codes "policy_groups") ∷ any ∷ fixed (codes "policies") ∷ any ∷ []) (Policies (policy.Assignment 3 5)) (Get ∷ Put ∷ Delete ∷ [])
    ∷ []

-- searches
abbrev pub searches : List TableRow
searches =
    below (fixed (codes "search") ∷ []) (Search search.Indexes) (Get ∷ [])
    ∷ below (fixed (codes "search") ∷ any ∷ []) (Search (search.Index 3)) (Get ∷ Post ∷ [])
    ∷ []

-- the whole table
unfoldable pub table : List TableRow
table =
    organisations
    ++ (objects ++ (members ++ (access_lists ++ (bags ++ (files ++ (cookbooks ++ (policies ++ searches)))))))

-- two methods are the same
abbrev pub is_verb : Verb → Verb → Bool
is_verb = sameb verbs

-- the method is among these
abbrev pub lists : List Verb → Verb → Bool
lists [] verb = false
lists (own ∷ rest) verb = if is_verb own verb then true else lists rest verb

-- what a row of the code leads to
abbrev pub target_of : Row → Target
target_of row = record { route = row.route; methods = row.methods.now }

-- and the row that it is
abbrev pub row_of : Row → TableRow
row_of row = record { pattern = parts_in row.pattern.now; target = target_of row }

-- the patterns of the table, each with what it leads to
abbrev pub patterns : List TableRow → Table Target
patterns rows = map (λ row. (row.pattern, row.target)) rows

-- what the path of these segments leads to, where each of them is one
unfoldable pub target_at : List (List ℕ) → Option Target
target_at segments = if list_all is_segment segments then route_of (patterns table) segments else None
