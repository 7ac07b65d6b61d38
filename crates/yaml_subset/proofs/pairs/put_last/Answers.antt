use Rattle.std.proofs.Common.{◌++◌, ◌∷◌, [], ap, sym, ◌∙◌}
use Rattle.doc_tree.specs.Doc.{Doc}
use Rattle.yaml_subset.proofs.PairsLemmas.{insert_last}
use Rattle.yaml_subset.proofs.pairs.put_last.Goals as goal

pub returns : goal.returns
returns c =
    c.in_ok-push.ensures.ok ∙ ap (λ (d : Doc). c.args.fields.now ++ (c.args.key, d) ∷ []) c.into_tree.ensures.tree ∙ sym (insert_last c.args.fields.now c.args.key c.args.document c.requires)
