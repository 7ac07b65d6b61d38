-- The pairs of a plan: what is to be done by each, and what each fires.
use Rattle.std.specs.Prelude.{ℕ, suc, List, [], ◌∷◌, ◌++◌, map, Option, Some, None, option_and_then, slice_get, slice_index_or, if◌then◌else◌}
use Rattle.std.specs.List.{position_or_len}
use Rattle.host_acts.specs.Tasks.{Task, task}
use Rattle.notify_queue.specs.declared.pair.Pair.{Pair}
use Rattle.resource_core.specs.Plans.{Planned, is_immediate, same_action}
use Rattle.resource_core.specs.Types.{row}
use Rattle.resource_core.specs.declared.links.Notification.{Notification}
use Rattle.resource_core.specs.declared.resources.Resource.{Resource}
use Rattle.resource_core.specs.declared.types.Action.{Action}
use Rattle.resource_core.specs.declared.types.ResourceType.{ResourceType}
use Rattle.converge.specs.declared.firing.Fire.{Fire}
use Rattle.converge.specs.declared.firing.Fire.TheVariants.{Now, Later}

-- ---- pairs

-- the place of an action among those of a type
abbrev pub place_in : ResourceType → Action → ℕ
place_in kind action = position_or_len (same_action action) (row kind).actions

-- the pair of the resource at this place and an action
abbrev pub pair_of : ℕ → Resource → Action → Pair
pair_of place r action = record { resource = place; action = place_in r.kind action }

-- the pairs of the own actions of these resources, of which the first stands at this place
abbrev pub own_from : ℕ → List Resource → List Pair
own_from place [] = []
own_from place (r ∷ more) = map (pair_of place r) r.actions ++ own_from (suc place) more

-- the own actions of a plan, in order
abbrev pub own : Planned → List Pair
own plan = own_from 0 plan.resources

-- the place of an action among those of a resource's type
abbrev pub place_on : Option Resource → Action → ℕ
place_on None action = 0
place_on (Some r) action = place_in r.kind action

-- the pair that a notification is for
abbrev pub pair_for : List Resource → Notification → Pair
pair_for resources n = record { resource = n.target; action = place_on (slice_get resources n.target) n.action }

-- ---- what is to be done

-- what the action at this place among those of a resource's type is to do
abbrev pub task_by : Option Resource → ℕ → Option Task
task_by None place = None
task_by (Some r) place = option_and_then (task r) (slice_get (row r.kind).actions place)

-- what is to be done by a pair: nothing where its action is `nothing`
abbrev pub task_of : Planned → Pair → Option Task
task_of plan pair = task_by (slice_get plan.resources pair.resource) pair.action

-- ---- what is fired

-- what a notification fires: its pair, at once or later
abbrev pub fire_of : List Resource → Notification → Fire
fire_of resources n = if is_immediate n.timer then Now (pair_for resources n) else Later (pair_for resources n)

-- what the update by a pair fires: what its resource notifies, in order, and then those that subscribe to it
abbrev pub fires_of : Planned → Pair → List Fire
fires_of plan pair = map (fire_of plan.resources) (slice_index_or plan.fires pair.resource [])

-- a pair, at once
abbrev pub now_of : Pair → Fire
now_of pair = Now pair

-- all own actions, each at once
abbrev pub own_fires : Planned → List Fire
own_fires plan = map now_of (own plan)
