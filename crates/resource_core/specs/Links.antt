-- What the update of each resource fires.
use Rattle.std.specs.Prelude.{ℕ, suc, ◌==◌, List, [], ◌∷◌, ◌++◌, length, map, Option, option_and_then, option_map, slice_get, Result, Ok}
use Rattle.std.specs.List.{filter}
use Rattle.resource_core.specs.Drafts.{place_of, titles}
use Rattle.resource_core.specs.Outcomes.{or_fault, then_do}
use Rattle.resource_core.specs.Types.{action_in}
use Rattle.resource_core.specs.declared.entries.Entry.{Entry}
use Rattle.resource_core.specs.declared.fault.CompileFault.{CompileFault}
use Rattle.resource_core.specs.declared.fault.CompileFault.TheVariants.{NoSuchResource}
use Rattle.resource_core.specs.declared.links.Notification.{Notification}
use Rattle.resource_core.specs.declared.links.Heard.{Heard}
use Rattle.resource_core.specs.declared.resources.Resource.{Resource}

-- the place of the resource that a title means: of those that have it, the first
abbrev pub meant : List Resource → List ℕ → Option ℕ
meant all text = place_of text (titles all)

-- an entry's action on the resource at a place, if there is one and its type has the action
abbrev pub action_on : List Resource → Entry → ℕ → Option Notification
action_on all entry place =
    option_and_then (λ (r : Resource). option_map (λ action. record { action = action; target = place; timer = entry.timer }) (action_in r.kind entry.action)) (slice_get all place)

-- what an entry of `notifies` fires: its action on the resource that it names
abbrev pub fired : List Resource → Entry → Option Notification
fired all entry = option_and_then (action_on all entry) (meant all entry.resource)

-- what an entry of `subscribes` of the resource at this place hears: the resource that it names, and the own action
abbrev pub heard : List Resource → ℕ → Entry → Option Heard
heard all place entry = option_and_then (λ by. option_map (λ fire. record { by = by; fire = fire }) (action_on all entry place)) (meant all entry.resource)

-- what is made of each entry of the resource at this place, or the first that is of no such resource
abbrev pub each_entry : {B : Type 0} → (Entry → Option B) → ℕ → List Entry → Result (List B) CompileFault
each_entry make place [] = Ok []
each_entry make place (e ∷ entries) =
    then_do (or_fault (NoSuchResource place e.resource) (make e)) (λ x. then_do (each_entry make place entries) (λ xs. Ok (x ∷ xs)))

-- what each resource fires by its `notifies`, and what is heard by `subscribes`
pub record Links : Type 0 where
  pub own : List (List Notification)
  pub all_heard : List Heard

-- the links of a resource, behind those that are made
abbrev pub link : List Resource → Resource → Links → Result Links CompileFault
link all r made =
    then_do (each_entry (fired all) (length made.own) r.notifies)
    (λ own. then_do (each_entry (heard all (length made.own)) (length made.own) r.subscribes)
    (λ more. Ok (record { own = made.own ++ own ∷ []; all_heard = made.all_heard ++ more })))

-- the links of these resources, behind those that are made
abbrev pub links : List Resource → List Resource → Links → Result Links CompileFault
links all [] made = Ok made
links all (r ∷ more) made = then_do (link all r made) (links all more)

-- what subscribers hear of the resource at a place, in plan order
abbrev pub heard_of : ℕ → List Heard → List Notification
heard_of place all_heard = map (λ (h : Heard). h.fire) (filter (λ (h : Heard). h.by == place) all_heard)

-- what each resource fires, from a place on: by its `notifies` in order, and then what its subscribers hear
abbrev pub fires_from : ℕ → List (List Notification) → List Heard → List (List Notification)
fires_from place [] all_heard = []
fires_from place (own ∷ more) all_heard = (own ++ heard_of place all_heard) ∷ fires_from (suc place) more all_heard

-- what each of these resources fires, or the first entry that is of no such resource
abbrev pub fires_of : List Resource → Result (List (List Notification)) CompileFault
fires_of all = then_do (links all all (record { own = []; all_heard = [] })) (λ made. Ok (fires_from 0 made.own made.all_heard))
