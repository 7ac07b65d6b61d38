-- The walk that visits run lists with a stack of its own, for the private clauses.
use Rattle.std.specs.Prelude.{ℕ, cond, List, [], ◌∷◌, ◌++◌, map, Option, Some, None, option_map}
use Rattle.run_lists.specs.Stored.{Stored}
use Rattle.run_lists.specs.declared.names.Named.{Named}
use Rattle.run_lists.specs.declared.names.Named.TheVariants.{Recipe, Role}
use Rattle.run_lists.specs.declared.roles.RunLists.{RunLists}
use Rattle.run_lists.specs.declared.walk.Event.{Event as Walked}
use Rattle.run_lists.specs.declared.walk.Event.TheVariants as walked
use Rattle.run_lists.specs.declared.walk.Frame.{Frame}
use Rattle.run_lists.specs.declared.walk.Walk.{Walk}
use Rattle.run_lists.specs.Keys.{run_of}
use Rattle.run_lists.specs.Roles.{run_list_in}
use Rattle.run_lists.specs.Visits.{Event, run, missing, leave, is_among}

-- an event, by its parts
abbrev pub event_of : Walked → Event
event_of (walked.Run recipe) = run (run_of recipe)
event_of (walked.Missing role) = missing role.now
event_of (walked.Leave role) = leave role.now

-- a run list that is being visited: the role that it is of, if it is of one, and the items that are left
pub record Level : Type 0 where
  pub role : Option (List ℕ)
  pub left : List Stored

-- the roles that are met, the run lists that are being visited, the innermost last, and the events so far
pub record State : Type 0 where
  pub met : List (List ℕ)
  pub levels : List Level
  pub events : List Event

abbrev pub level_of : Frame → Level
level_of frame = record { role = option_map (λ r. r.now) frame.role; left = frame.left.now }

abbrev pub state_of : Walk → State
state_of walk = record { met = walk.met.keys; levels = map level_of walk.frames.items; events = map event_of walk.told.items }

-- one more event
abbrev pub with_event : Event → State → State
with_event event state = record state { events = state.events ++ event ∷ [] }

-- one more run list is being visited
abbrev pub with_level : Level → State → State
with_level level state = record state { levels = state.levels ++ level ∷ [] }

-- the visit of a role begins, if it is there
abbrev pub entered : List ℕ → Option (List Stored) → State → State
entered role None state = with_event (missing role) state
entered role (Some items) state =
    record { met = state.met ++ role ∷ []; levels = state.levels ++ (record { role = Some role; left = items }) ∷ []; events = state.events }

-- what an item does
abbrev pub visited : List (List ℕ × RunLists) → List ℕ → Stored → Named → State → State
visited roles env item (Recipe name version) state = with_event (run (record { item = item; name = name; version = version })) state
visited roles env item (Role role) state = cond (is_among state.met role) state (entered role (run_list_in roles env role) state)

-- the visit of a run list ends
abbrev pub ended : Option (List ℕ) → State → State
ended None state = state
ended (Some role) state = with_event (leave role) state

-- one turn at the innermost run list
abbrev pub turned : List (List ℕ × RunLists) → List ℕ → Option (List ℕ) → List Stored → State → State
turned roles env role [] state = ended role state
turned roles env role (item ∷ left) state = visited roles env item item.named (with_level (record { role = role; left = left }) state)
