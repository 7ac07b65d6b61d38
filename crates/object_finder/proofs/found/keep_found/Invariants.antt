-- Those found so far, and those that will be among the names that are left; the steps so far, and one for each name that is left.
use Rattle.std.proofs.Common.{◌≡◌, ◌+◌, ◌≤◌, ◌++◌, length, filter}
use Rattle.object_finder.specs.Found.{is_found}
use Rattle.object_finder.proofs.found.keep_found.Given as goal

abbrev pub invariant-loop-name : goal.invariant-loop-name
invariant-loop-name g l =
    (l.found ++ filter (is_found l.index l.query l.objects.objects) l.name-iterator.rest.items ≡ filter (is_found l.index l.query l.objects.objects) l.fn.names)
    × (l.steps + length l.name-iterator.rest.items ≡ l.fn.steps + length l.fn.names)
    × (l.fn.steps ≤ l.steps)
