use Rattle.std.proofs.Common.{ap, sym, ◌∙◌}
use Rattle.doc_tree.specs.Tree.{doc_of}
use Rattle.doc_tree.specs.declared.tree.Tree.{Tree}
use Rattle.yaml_subset.specs.Written.{is_block}
use Rattle.yaml_subset.proofs.WrittenLemmas.{list_block, dict_block}
use Rattle.yaml_subset.proofs.write.is_block.Goals as goal

pub returns-in-List : goal.returns-in-List
returns-in-List c = list_block c.is_empty.result _ c.is_empty.ensures ∙ ap (λ (t : Tree). is_block (doc_of t)) (sym c.in-List.is)

pub returns-in-Dict : goal.returns-in-Dict
returns-in-Dict c = dict_block c.is_empty-in-Dict.result _ c.is_empty-in-Dict.ensures ∙ ap (λ (t : Tree). is_block (doc_of t)) (sym c.in-Dict.is)
