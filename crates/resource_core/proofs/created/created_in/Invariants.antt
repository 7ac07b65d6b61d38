-- The titles of the fields so far.
use Rattle.std.proofs.Common.{map, take}
use Rattle.resource_core.specs.Entries.{created}
use Rattle.resource_core.specs.Titles.{HasTitles, pairs_by}
use Rattle.resource_core.proofs.created.created_in.Given as goal

abbrev pub invariant-loop-fields : goal.invariant-loop-fields
invariant-loop-fields l = HasTitles (created (map pairs_by (take l.fields-index l.all))) l.titles
