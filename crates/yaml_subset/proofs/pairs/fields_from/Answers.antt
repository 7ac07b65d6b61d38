-- The entries come in the order of their keys, as fields must.
use Rattle.std.proofs.Common.{◌++◌, ap, ◌∙◌, subst}
use Rattle.std.specs.Map.{keys_of}
use Rattle.doc_tree.specs.Valid.{InOrder}
use Rattle.yaml_subset.proofs.PairsLemmas.{front_in_order}
use Rattle.yaml_subset.proofs.pairs.fields_from.Goals as goal

pub push-requires : goal.push-requires
push-requires c =
    let all = c.loop-key.invariant ∙ ap (λ es. c.loop-key.fields ++ es) c.in-Some.ensures.steps in
    front_in_order c.loop-key.fields _ _ (subst (λ es. InOrder (keys_of es)) all c.len.ensures.ordered)
