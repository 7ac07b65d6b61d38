use Rattle.std.proofs.Common.{ℕ, List, is_some, map, ap, ◌∙◌}
use Rattle.doc_tree.specs.Doc.{Doc, pairs_of}
use Rattle.doc_tree.specs.Part.{pair_at}
use Rattle.doc_tree.specs.Tree.{pair_of}
use Rattle.doc_tree.specs.declared.tree.Field.{Field}
use Rattle.yaml_subset.proofs.FallingLemmas.{some_reverse}
use Rattle.yaml_subset.proofs.falling.Falling.has.Goals as goal

pub returns : goal.returns
returns c =
    c.has_key.ensures
    ∙ ap (λ (fs : List Field). is_some (pair_at c.args.key.now (pairs_of (map pair_of fs)))) c.as_slice.ensures.value
    ∙ some_reverse c.args.key.now c.self.inside.entries.items
    ∙ ap (λ (es : List (List ℕ × Doc)). is_some (pair_at c.args.key.now (pairs_of es))) c.self.view_is
