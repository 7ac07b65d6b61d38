-- The plan of recipes over merged attributes, or the first fault.
use Rattle.std.specs.Prelude.{◌≡◌, ◌≢◌, ℕ, Bool, true, false, not, ◌&&◌, ◌||◌, IsTrue, List, [], length, map, Option, Some, None, is_some, bytes_eq, codes, slice_get, Result, Ok, Err}
use Rattle.std.specs.List.{filter, filter_map, flat_map, list_all, list_any}
use Rattle.doc_tree.specs.Doc.{Doc, null, boolean, whole, words, list, dict, docs_list, Pairs}
use Rattle.doc_tree.specs.Part.{pair_at}
use Rattle.doc_tree.specs.Tree.{doc_of}
use Rattle.doc_tree.specs.declared.tree.Tree.{Tree}
use Rattle.resource_core.specs.Drafts.{Given, drafts, titles}
use Rattle.resource_core.specs.Entries.{created, items_in}
use Rattle.resource_core.specs.Graph.{Falls, IsOnCycle, OnCycles}
use Rattle.resource_core.specs.Links.{fires_of}
use Rattle.resource_core.specs.Outcomes.{Fails, then_do}
use Rattle.resource_core.specs.Types.{is_create, row}
use Rattle.resource_core.specs.declared.fault.CompileFault.{CompileFault}
use Rattle.resource_core.specs.declared.fault.CompileFault.TheVariants.{ImmediateCycle}
use Rattle.resource_core.specs.declared.entries.Timer.{Timer}
use Rattle.resource_core.specs.declared.entries.Timer.TheVariants.{Delayed, Immediately}
use Rattle.resource_core.specs.declared.links.Notification.{Notification}
use Rattle.resource_core.specs.declared.resources.Resource.{Resource}
use Rattle.resource_core.specs.declared.types.Action.{Action}
use Rattle.resource_core.specs.declared.types.Action.TheVariants.{Create, CreateIfMissing, Delete, Nothing}
use Rattle.resource_core.specs.declared.types.Presence.{Presence}
use Rattle.resource_core.specs.declared.types.Presence.TheVariants.{Optional, Needed, NeededToCreate}
use Rattle.resource_core.specs.declared.types.ResourceType.{ResourceType}

-- a plan: the resources, what the update of each fires, and how deep each lies
pub record Planned : Type 0 where
  pub resources : List Resource
  pub fires : List (List Notification)
  pub depths : List ℕ

-- the pairs of a dict
abbrev pub pairs_in : Doc → Option Pairs
pairs_in null = None
pairs_in (boolean b) = None
pairs_in (whole z) = None
pairs_in (words text) = None
pairs_in (list ds) = None
pairs_in (dict ps) = Some ps

-- the document is a list of dicts
abbrev pub are_dicts : Doc → Bool
are_dicts null = false
are_dicts (boolean b) = false
are_dicts (whole z) = false
are_dicts (words text) = false
are_dicts (list ds) = list_all (λ d. is_some (pairs_in d)) (docs_list ds)
are_dicts (dict ps) = false

-- there is a list of dicts
abbrev pub has_dicts : Option Doc → Bool
has_dicts None = false
has_dicts (Some d) = are_dicts d

-- a recipe: a dict with a list `resources` of dicts
abbrev pub is_recipe : Doc → Bool
is_recipe null = false
is_recipe (boolean b) = false
is_recipe (whole z) = false
is_recipe (words text) = false
is_recipe (list ds) = false
is_recipe (dict ps) = has_dicts (pair_at (codes "resources") ps)

-- each of these trees is a recipe
abbrev pub AreRecipes : List Tree → Type 0
AreRecipes recipes = IsTrue (list_all (λ recipe. is_recipe (doc_of recipe)) recipes)

-- the pairs of a recipe's resources, in order
abbrev pub resources_in : Doc → List Pairs
resources_in null = []
resources_in (boolean b) = []
resources_in (whole z) = []
resources_in (words text) = []
resources_in (list ds) = []
resources_in (dict ps) = filter_map pairs_in (items_in (pair_at (codes "resources") ps))

-- the pairs of the resources of all recipes, in order
abbrev pub all_resources : List Tree → List Pairs
all_resources recipes = flat_map (λ recipe. resources_in (doc_of recipe)) recipes

-- what the resources are read by
abbrev pub given : List Tree → Doc → Given
given recipes attributes = record { attributes = attributes; is_created = λ title. list_any (bytes_eq title) (created (all_resources recipes)) }

-- the resources with what each fires, or the first fault but for cycles: resource by resource, and then among the notifications
abbrev pub resolved : List Tree → Doc → Result (List Resource × List (List Notification)) CompileFault
resolved recipes attributes = then_do (drafts (given recipes attributes) (all_resources recipes) []) (λ all. then_do (fires_of all) (λ fires. Ok (all, fires)))

-- the timer fires at once
abbrev pub is_immediate : Timer → Bool
is_immediate Delayed = false
is_immediate Immediately = true

-- the places of the resources on which something is done at once
abbrev pub nexts_of : List Notification → List ℕ
nexts_of fires = map (λ (n : Notification). n.target) (filter (λ (n : Notification). is_immediate n.timer) fires)

-- where immediate notifications lead from each resource
abbrev pub nexts : List (List Notification) → List (List ℕ)
nexts fires = map nexts_of fires

-- the same action
abbrev pub same_action : Action → Action → Bool
same_action Create Create = true
same_action Create other = false
same_action CreateIfMissing CreateIfMissing = true
same_action CreateIfMissing other = false
same_action Delete Delete = true
same_action Delete other = false
same_action Nothing Nothing = true
same_action Nothing other = false

-- the action is one of the type's
abbrev pub is_action_of : ResourceType → Action → Bool
is_action_of kind action = list_any (same_action action) (row kind).actions

-- a property that has to be there to create
abbrev pub is_for_create : Presence → Bool
is_for_create Optional = false
is_for_create Needed = false
is_for_create NeededToCreate = true

-- the type needs `to` where one of it is created
abbrev pub needs_to : ResourceType → Bool
needs_to kind = list_any (λ p. is_for_create p.presence) (row kind).properties

-- the resource is there, and the action is one of its type's
abbrev pub has_action : Action → Option Resource → Bool
has_action action None = false
has_action action (Some r) = is_action_of r.kind action

-- the notification is to a resource that is there, and its action is one of that resource's type
abbrev pub is_aimed : List Resource → Notification → Bool
is_aimed resources n = has_action n.action (slice_get resources n.target)

-- each own action of a resource is one of its type's
abbrev pub has_own_actions : Resource → Bool
has_own_actions r = list_all (is_action_of r.kind) r.actions

-- a resource of which `create` is an own action has `to` where its type needs it
abbrev pub has_own_to : Resource → Bool
has_own_to r = not (list_any is_create r.actions && needs_to r.kind) || is_some r.to

-- the resource that is to be created has `to` where its type needs it
abbrev pub has_to : Action → Option Resource → Bool
has_to action None = true
has_to action (Some r) = not (is_create action && needs_to r.kind) || is_some r.to

-- so has the resource at which the notification is aimed
abbrev pub is_linked : List Resource → Notification → Bool
is_linked resources n = has_to n.action (slice_get resources n.target)

-- what a plan keeps
pub record IsSound (plan : Planned) : Type 0 where
  pub fires_each : length plan.fires ≡ length plan.resources
  pub depths_each : length plan.depths ≡ length plan.resources
  pub own_actions : IsTrue (list_all has_own_actions plan.resources)
  pub notified : IsTrue (list_all (list_all (is_aimed plan.resources)) plan.fires)
  pub own_links : IsTrue (list_all has_own_to plan.resources)
  pub notified_links : IsTrue (list_all (list_all (is_linked plan.resources)) plan.fires)
  pub falls : Falls (nexts plan.fires) plan.depths

-- the plan is what was resolved, and no resource lies on a cycle of immediate notifications
pub record IsPlanOf (recipes : List Tree) (attributes : Doc) (plan : Planned) : Type 0 where
  pub resolves : resolved recipes attributes ≡ Ok (plan.resources, plan.fires)
  pub no_cycle : (place : ℕ) → IsOnCycle (nexts plan.fires) place → ⊥

-- these are the titles of the resources on cycles of immediate notifications, in plan order, of which there is one
pub record AreCyclic (recipes : List Tree) (attributes : Doc) (names : List (List ℕ)) : Type 0 where
  pub resources : List Resource
  pub fires : List (List Notification)
  pub resolves : resolved recipes attributes ≡ Ok (resources, fires)
  pub on_cycles : OnCycles (nexts fires) 0 (titles resources) names
  pub some : names ≢ []

-- a fault is that of a cycle, or the first one
abbrev pub Refuses : List Tree → Doc → CompileFault → Type 0
Refuses recipes attributes (ImmediateCycle names) = AreCyclic recipes attributes names
Refuses recipes attributes fault = Fails fault (resolved recipes attributes)

-- an answer gives the plan or its first fault; only want of memory says nothing of it
abbrev pub Compiles : List Tree → Doc → Result Planned CompileFault → Type 0
Compiles recipes attributes (Ok plan) = IsPlanOf recipes attributes plan
Compiles recipes attributes (Err fault) = Refuses recipes attributes fault
