-- What a plan needs of a host.
use Rattle.std.specs.Prelude.{Bool, true, false, not, ◌&&◌, ◌||◌, List, Option, Some, None, is_some, slice_get, if◌then◌else◌}
use Rattle.std.specs.List.{list_any}
use Rattle.host_acts.specs.Tasks.{is_acting}
use Rattle.host_tree.specs.declared.caps.Caps.{Caps}
use Rattle.resource_core.specs.Plans.{Planned}
use Rattle.resource_core.specs.declared.links.Notification.{Notification}
use Rattle.resource_core.specs.declared.resources.Resource.{Resource}
use Rattle.resource_core.specs.declared.types.ResourceType.{ResourceType}
use Rattle.resource_core.specs.declared.types.ResourceType.TheVariants as kind
use Rattle.converge.specs.declared.outcome.Cap.{Cap}
use Rattle.converge.specs.declared.outcome.Cap.TheVariants.{Links, Modes}

-- the type is `link`
abbrev pub is_link : ResourceType → Bool
is_link kind.File = false
is_link kind.Directory = false
is_link kind.Link = true

-- a link of which an own action is other than `nothing`
abbrev pub acts_on_link : Resource → Bool
acts_on_link r = is_link r.kind && list_any is_acting r.actions

-- the resource is there and is a link
abbrev pub is_link_there : Option Resource → Bool
is_link_there None = false
is_link_there (Some r) = is_link r.kind

-- an action other than `nothing` is notified on a link
abbrev pub fires_link : List Resource → Notification → Bool
fires_link resources n = is_acting n.action && is_link_there (slice_get resources n.target)

-- some link has an own or notified action other than `nothing`
abbrev pub needs_links : Planned → Bool
needs_links plan = list_any acts_on_link plan.resources || list_any (list_any (fires_link plan.resources)) plan.fires

-- a file or directory that states a mode
abbrev pub states_mode : Resource → Bool
states_mode r = not (is_link r.kind) && is_some r.mode

-- some file or directory states a mode
abbrev pub needs_modes : Planned → Bool
needs_modes plan = list_any states_mode plan.resources

-- what the plan needs and a host doesn't offer: links first
abbrev pub lacking : Planned → Caps → Option Cap
lacking plan caps = if needs_links plan && not caps.links then Some Links else (if needs_modes plan && not caps.modes then Some Modes else None)
