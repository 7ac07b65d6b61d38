-- The looks at the versions of all shelves, shelf by shelf.
use Rattle.std.proofs.Common.{◌≡◌, ◌<◌, ◌+◌, ℕ, List, map, length, drop, get_or, sym, ap, ◌∙◌, arith}
use Rattle.std.proofs.lemmas.List.{drop_more}
use Rattle.std.specs.FinMap as finite
use Rattle.doc_tree.specs.Doc.{Doc}
use Rattle.shelves.specs.SortedMap.{map_of}
use Rattle.version_rules.specs.Order.{version_cmp}
use Rattle.version_rules.specs.declared.versions.Version.{Version}
use Rattle.cookbook_routes.specs.Universes.{count_versions}
use Rattle.cookbook_routes.proofs.ListingLemmas.{Shelf, seen_shelf}

-- with the looks at one more shelf, those at the others that are left make up all
pub looks_more : (shelves : List Shelf) (i : ℕ) (shelf : Shelf) (entries : List (Version × Doc)) (steps now all : ℕ) → i < length shelves → shelf ≡ get_or shelves i shelf → entries ≡ finite.entries (map_of version_cmp shelf.1)
    → now ≡ steps + length entries → steps + count_versions (map seen_shelf (drop i shelves)) ≡ all → now + count_versions (map seen_shelf (drop (i + 1) shelves)) ≡ all
looks_more shelves i shelf entries steps now all within is are looked before =
    let left : count_versions (map seen_shelf (drop i shelves)) ≡ finite.len (map_of version_cmp shelf.1) + count_versions (map seen_shelf (drop (i + 1) shelves)) =
    ap (λ ss. count_versions (map seen_shelf ss)) (drop_more shelves i shelf within) ∙ ap (λ s. finite.len (map_of version_cmp s.1) + count_versions (map seen_shelf (drop (i + 1) shelves))) (sym is) in
    let size : finite.len (map_of version_cmp shelf.1) ≡ length entries = finite.len-entries (map_of version_cmp shelf.1) ∙ ap length (sym are) in
    omega (arith, left, size, looked, before)
