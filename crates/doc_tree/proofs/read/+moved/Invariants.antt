-- The documents so far, and then those of what is left, are those of all.
use Rattle.std.proofs.Common.{◌≡◌, List, ◌++◌, map, option_map, String, Global, string_bytes}
use Rattle.std.specs.Map.{keys_of}
use Rattle.std.specs.Vec.Iter.{into_iter_items}
use Rattle.serde_json.specs.View.{items_view, members_view}
use Rattle.serde_json.specs.declared.value.Value.{Value}
use Rattle.doc_tree.specs.Data.{docs_in, pairs_in}
use Rattle.doc_tree.proofs.read.+moved.Given as goal

abbrev pub invariant-trees_from-loop-item : goal.invariant-trees_from-loop-item
invariant-trees_from-loop-item l =
    docs_in (items_view l.fn.items.items) ≡ option_map (λ rest. l.trees ++ rest) (docs_in (items_view (into_iter_items l.item-iterator)))

abbrev pub invariant-fields_from-loop-name : goal.invariant-fields_from-loop-name
invariant-fields_from-loop-name l = record {
  done : List (String Global × Value);
  order : l.fn.members.entries ≡ done ++ l.name-iterator;
  names : keys_of l.fields ≡ map (λ e. string_bytes e.0) done;
  pairs : pairs_in (members_view l.fn.members.entries) ≡ option_map (λ rest. l.fields ++ rest) (pairs_in (members_view l.name-iterator));
}
