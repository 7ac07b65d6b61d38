-- Which group each route is of: the one place of the definitions that names the groups.
use Rattle.std.specs.Prelude.{Bool, true, false}
use Rattle.org_requests.specs.declared.routes.OrganisationRoute.{OrganisationRoute}
use Rattle.org_requests.specs.declared.routes.OrganisationRoute.TheVariants.{Create, Whole}
use Rattle.org_requests.specs.Routes.{Route}
use Rattle.org_requests.specs.declared.routes.RouteOf.TheVariants.{Organisation, Objects, Data, Access, Cookbooks, Policies, Search}
use Rattle.org_core.specs.Lawful.{Placed}
use Rattle.org_core.specs.Rules.{Rules}
use Rattle.access_routes.specs.AccessRules.{access_rules}
use Rattle.cookbook_routes.specs.CookbookRules.{cookbook_rules}
use Rattle.object_routes.specs.DataBags.{data_rules}
use Rattle.object_routes.specs.Objects.{objects_rules}
use Rattle.object_routes.specs.Organisations.{organisation_rules}
use Rattle.policy_routes.specs.PolicyRules.{policy_rules}
use Rattle.search_routes.specs.SearchRules.{search_rules}

-- what is created needn't be there
abbrev pub asks_for_whole : OrganisationRoute → Bool
asks_for_whole Create = false
asks_for_whole Whole = true

-- what is said of a route by its group, one line a group: of whether it asks that its organisation is there, of the rules
-- of its group, and of the route as one of the group's
abbrev pub by_group {ℓ} : {R : Type ℓ} → ((GroupRoute Operation : Type 0) → Bool → Rules GroupRoute Operation → GroupRoute → R) → Route → R
by_group says (Organisation route) = says _ _ (asks_for_whole route) organisation_rules route
by_group says (Objects collection route) = says _ _ true (objects_rules collection) route
by_group says (Data route) = says _ _ true data_rules route
by_group says (Access route) = says _ _ true access_rules route
by_group says (Cookbooks route) = says _ _ true cookbook_rules route
by_group says (Policies route) = says _ _ true policy_rules route
by_group says (Search route) = says _ _ true search_rules route

-- the route with the rules of its group
abbrev pub placed : Route → Placed
placed route = by_group (λ GroupRoute Operation asks rules at. record { Route = GroupRoute; Operation = Operation; rules = rules; route = at; asks = asks }) route
