-- What is made so far is what the first lists give.
use Rattle.std.proofs.Common.{◌≡◌, map, take}
use Rattle.run_lists.specs.Storing.{named_pair}
use Rattle.run_lists.proofs.storing.by_name_tree.Given as goal

abbrev pub invariant-loop-named : goal.invariant-loop-named
invariant-loop-named l = l.made ≡ map named_pair (take l.named-index l.lists)
