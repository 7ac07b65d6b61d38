-- The roles so far, and those among the events that are left.
use Rattle.std.proofs.Common.{◌≡◌, ◌++◌, map, drop}
use Rattle.std.specs.List.{filter_map}
use Rattle.run_lists.specs.Expansions as spec
use Rattle.run_lists.specs.Walk.{event_of}
use Rattle.run_lists.proofs.listing.absent_in.Given as goal

abbrev pub invariant-loop-event : goal.invariant-loop-event
invariant-loop-event l = map (λ name. name.now) l.names.items ++ filter_map spec.missing_of (map event_of (drop l.event-index l.told)) ≡ filter_map spec.missing_of (map event_of l.told)
