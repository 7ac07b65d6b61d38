-- The fields come in the order of their keys.
use Rattle.std.proofs.Common.{◌++◌, ap, map, ◌∙◌, subst}
use Rattle.std.specs.Map.{keys_of}
use Rattle.doc_tree.specs.Tree.{pair_of}
use Rattle.doc_tree.specs.Valid.{InOrder}
use Rattle.yaml_subset.proofs.PairsLemmas.{front_in_order}
use Rattle.yaml_subset.proofs.pairs.map_from.Goals as goal

pub add_last-requires : goal.add_last-requires
add_last-requires c =
    let all = c.loop-field.invariant ∙ ap (λ es. c.loop-field.map.entries ++ map pair_of es) c.in-Some.ensures.steps.0 in
    front_in_order c.loop-field.map.entries _ _ (subst (λ es. InOrder (keys_of es)) all c.into_vec-field-items.ensures.order)
