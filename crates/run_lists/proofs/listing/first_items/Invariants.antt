-- The keys and the items of the recipes so far, each once.
use Rattle.std.proofs.Common.{map, take}
use Rattle.run_lists.specs.Visits.{Run}
use Rattle.run_lists.specs.Keys.{key_of, run_of, same_key}
use Rattle.run_lists.proofs.FirstsLemmas.{Noted}
use Rattle.run_lists.proofs.listing.first_items.Given as goal

abbrev pub invariant-loop-run : goal.invariant-loop-run
invariant-loop-run l = Noted same_key (λ (r : Run). key_of r.name r.version) (λ (r : Run). r.item) (map run_of (take l.run-index l.runs)) l.seen.keys l.items
