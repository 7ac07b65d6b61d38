-- The roles so far, and those among the events that are left.
use Rattle.std.proofs.Common.{◌≡◌, ◌++◌, map, drop}
use Rattle.run_lists.specs.Expansions.{roles_in}
use Rattle.run_lists.specs.Walk.{event_of}
use Rattle.run_lists.proofs.listing.roles_in.Given as goal

abbrev pub invariant-loop-event : goal.invariant-loop-event
invariant-loop-event l = l.names ++ roles_in (map event_of (drop l.event-index l.told)) ≡ roles_in (map event_of l.told)
