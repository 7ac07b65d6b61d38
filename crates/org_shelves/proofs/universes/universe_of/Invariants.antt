-- The cookbooks so far and those of the shelves that are left are all.
use Rattle.std.proofs.Common.{◌≡◌, ◌++◌, map, drop}
use Rattle.org_shelves.proofs.UniverseLemmas.{cookbooks_of, seen}
use Rattle.org_shelves.proofs.universes.universe_of.Given as goal

abbrev pub invariant-loop-name : goal.invariant-loop-name
invariant-loop-name l = l.cookbooks.items ++ cookbooks_of (map seen (drop l.name-index l.name-items)) ≡ cookbooks_of (map seen l.name-items)
