-- The fields come in the order of their keys.
use Rattle.std.proofs.Common.{◌++◌, ℕ, List, ap, map, ◌∙◌, subst}
use Rattle.std.specs.Map.{keys_of}
use Rattle.doc_tree.specs.Doc.{Doc}
use Rattle.doc_tree.specs.Tree.{pair_of}
use Rattle.doc_tree.specs.Valid.{InOrder}
use Rattle.doc_tree.specs.declared.tree.Field.{Field}
use Rattle.yaml_subset.proofs.PairsLemmas.{front_in_order}
use Rattle.yaml_subset.proofs.falling.fields_of.Goals as goal

pub push-requires : goal.push-requires
push-requires c =
    let all = c.loop-field.invariant ∙ ap (λ (fs : List Field). c.loop-field.fields ++ map pair_of fs) c.in-Some.ensures.steps.0 in
    front_in_order c.loop-field.fields _ _ (subst (λ (es : List (List ℕ × Doc)). InOrder (keys_of es)) all c.requires)
