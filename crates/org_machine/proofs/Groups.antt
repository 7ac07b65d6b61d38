-- The rules of each group are lawful: the one place of the proofs that names the groups.
use Rattle.std.proofs.Common.{◌≡◌, Bool, refl}
use Rattle.org_requests.specs.declared.requests.Request.{Request}
use Rattle.org_requests.specs.Routes.{Route}
use Rattle.org_requests.specs.declared.routes.RouteOf.TheVariants.{Organisation, Objects, Data, Access, Cookbooks, Policies, Search}
use Rattle.org_core.specs.Contexts.{Context}
use Rattle.org_core.specs.Keeping.{Anyone}
use Rattle.org_core.specs.Lawful.{IsKnownWhere, IsLawful, IsLawfullyPlaced}
use Rattle.org_core.specs.Rules.{Rules}
use Rattle.access_routes.proofs.LawfulLemmas.{access_lawful}
use Rattle.cookbook_routes.proofs.LawfulLemmas.{cookbooks_lawful}
use Rattle.object_routes.proofs.LawfulLemmas.{organisations_lawful, objects_lawful, data_lawful}
use Rattle.object_routes.specs.Organisations.{organisation_rules}
use Rattle.policy_routes.proofs.LawfulLemmas.{policies_lawful}
use Rattle.search_routes.proofs.LawfulLemmas.{searches_lawful}
use Rattle.org_machine.specs.Order.{answered_by}
use Rattle.org_machine.specs.Permitting.{IsForbiddenAt, IsForbiddenBy}
use Rattle.org_machine.specs.Placing.{asks_for_whole, by_group, placed}
use Rattle.org_machine.specs.Steps.{asks_for_organisation, at_route}

-- rules that are lawful whoever asks are so at each route
for_anyone : {GroupRoute Operation : Type 0} (asks : Bool) (rules : Rules GroupRoute Operation) → IsLawful Anyone rules → IsLawful (IsKnownWhere asks) rules
for_anyone asks rules lawful = record {
  keeps = λ context route request operation meets _ is there free. lawful.keeps context route request operation meets tt is there free;
  keeps_files = lawful.keeps_files;
  orderly = lawful.orderly;
  never_forbids = lawful.never_forbids;
}

-- the rules of a route's group are lawful, one line a group
pub all_lawful : (route : Route) → IsLawfullyPlaced (placed route)
all_lawful (Organisation route) = for_anyone (asks_for_whole route) organisation_rules organisations_lawful
all_lawful (Objects collection route) = objects_lawful collection
all_lawful (Data route) = data_lawful
all_lawful (Access route) = access_lawful
all_lawful (Cookbooks route) = cookbooks_lawful
all_lawful (Policies route) = policies_lawful
all_lawful (Search route) = searches_lawful

-- what is said of a route by its group is said of the route as it is placed; no group but the first is named
pub by_group_is {ℓ} : {R : Type ℓ} (says : (GroupRoute Operation : Type 0) → Bool → Rules GroupRoute Operation → GroupRoute → R) (route : Route)
    → by_group says route ≡ says (placed route).Route (placed route).Operation (placed route).asks (placed route).rules (placed route).route
by_group_is says (Organisation route) = refl
by_group_is says _ = refl

-- so is what is decided at it
pub at_route_is : (context : Context) (route : Route) (request : Request) → at_route context route request ≡ answered_by (placed route).rules context (placed route).route request
at_route_is context route request = by_group_is (λ GroupRoute Operation asks rules at. answered_by rules context at request) route

-- whether it asks that its organisation is there
pub asks_is : (route : Route) → asks_for_organisation route ≡ (placed route).asks
asks_is route = by_group_is (λ GroupRoute Operation asks rules at. asks) route

-- and what is forbidden there
pub forbidden_is : (context : Context) (route : Route) (request : Request) → IsForbiddenAt context route request ≡ IsForbiddenBy (placed route).rules context (placed route).route request
forbidden_is context route request = by_group_is (λ GroupRoute Operation asks rules at. IsForbiddenBy rules context at request) route
