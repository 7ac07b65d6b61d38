-- The recipes so far, and those among the events that are left.
use Rattle.std.proofs.Common.{◌≡◌, ◌++◌, map, drop}
use Rattle.std.specs.List.{filter_map}
use Rattle.run_lists.specs.Expansions as spec
use Rattle.run_lists.specs.Keys.{run_of}
use Rattle.run_lists.specs.Walk.{event_of}
use Rattle.run_lists.proofs.listing.runs_in.Given as goal

abbrev pub invariant-loop-event : goal.invariant-loop-event
invariant-loop-event l = map run_of l.runs.items ++ filter_map spec.run_of (map event_of (drop l.event-index l.told)) ≡ filter_map spec.run_of (map event_of l.told)
