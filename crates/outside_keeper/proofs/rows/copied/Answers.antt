-- Copies of the entries of a map are in the order of their keys, and theirs is the same map.
use Rattle.std.proofs.Common.{subst, sym, ap, ◌∙◌}
use Rattle.std.specs.FinMap as finite
use Rattle.shelves.proofs.PlaceLemmas.{true_of}
use Rattle.shelves.specs.Places.{IsInKeyOrder}
use Rattle.shelves.specs.SortedMap.{map_of}
use Rattle.outside_keeper.specs.Rows.{row_cmp}
use Rattle.outside_keeper.proofs.rows.copied.Goals as goal

pub invariant_of-result : goal.invariant_of-result
invariant_of-result c =
    subst (λ l. IsInKeyOrder row_cmp l) (sym (c.in_ok-items.ensures ∙ c.entries.ensures.entries)) (true_of _ (finite.entries_sorted (map_of row_cmp c.args.map.now)))

pub returns : goal.returns
returns c =
    ap (λ l. finite.from_sorted {R = row_cmp} l) (c.in_ok-items.ensures ∙ c.entries.ensures.entries)
    ∙ finite.same_entries_map _ _ (finite.entries-from_sorted row_cmp _ (finite.entries_sorted (map_of row_cmp c.args.map.now)))
