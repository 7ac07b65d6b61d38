-- Those kept so far, and those that will be among the names that are left.
use Rattle.std.proofs.Common.{◌≡◌, ◌++◌, filter}
use Rattle.org_core.specs.Contexts.{seen}
use Rattle.search_routes.specs.Finding.{may_read}
use Rattle.search_routes.proofs.finding.readable.Given as goal

abbrev pub invariant-loop-name : goal.invariant-loop-name
invariant-loop-name l = l.kept ++ filter (may_read (seen l.context) l.index) l.name-iterator.rest.items ≡ filter (may_read (seen l.context) l.index) l.fn.names
