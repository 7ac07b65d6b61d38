-- The fields so far and those of the shelves that are left are all.
use Rattle.std.proofs.Common.{◌≡◌, ◌++◌, List, ℕ, drop, map}
use Rattle.doc_tree.specs.Doc.{Doc}
use Rattle.shelves.specs.SortedMap.{Sorted, map_of}
use Rattle.version_rules.specs.Order.{version_cmp}
use Rattle.version_rules.specs.declared.versions.Version.{Version}
use Rattle.cookbook_routes.specs.Listings as spec
use Rattle.cookbook_routes.proofs.listing_routes.listing_tree.Given as goal

abbrev pub invariant-loop-name : goal.invariant-loop-name
invariant-loop-name l =
    l.fields ++ map (λ (e : List ℕ × Sorted Version Doc). (e.0, spec.cookbook_doc l.org l.count e.0 (map_of version_cmp e.1))) (drop l.name-index l.name-items)
    ≡ map (λ (e : List ℕ × Sorted Version Doc). (e.0, spec.cookbook_doc l.org l.count e.0 (map_of version_cmp e.1))) l.name-items
