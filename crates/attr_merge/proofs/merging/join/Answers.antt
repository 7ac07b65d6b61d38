use Rattle.std.proofs.Common.{◌≡◌, ◌+◌, ◌∷◌, [], List, drop, sym, ap, ◌∙◌, arith}
use Rattle.std.proofs.lemmas.List.{drop_more}
use Rattle.doc_tree.specs.Tree.{doc_of}
use Rattle.attr_merge.specs.Elements.{with_elements}
use Rattle.attr_merge.specs.Families.{all_elements, elements}
use Rattle.attr_merge.specs.Parts.{piece_of, pieces_of}
use Rattle.attr_merge.specs.declared.parts.Part.{Part}
use Rattle.attr_merge.specs.Pieces.{Piece}
use Rattle.attr_merge.proofs.ListLemmas.{reverse-map, with_elements-append, drop-whole}
use Rattle.attr_merge.proofs.merging.join.Goals as goal

pub loop-array-preserved : goal.loop-array-preserved
loop-array-preserved c =
    let items = c.deref-array-items.result.now in
    let i = c.loop-array.array-index in
    let array = c.array-item.result in
    let split : drop i items ≡ array ∷ drop (i + 1) items = drop_more items i array (omega arith) ∙ ap (λ (p : Part). p ∷ drop (i + 1) items) (sym c.array-item.is) in
    ap (λ ds. with_elements ds (all_elements (pieces_of (drop (i + 1) items)))) c.in_ok-elements.ensures
    ∙ sym (with_elements-append c.loop-array.elements (elements (doc_of array.tree.now)) (all_elements (pieces_of (drop (i + 1) items))))
    ∙ ap (λ (ps : List Part). with_elements c.loop-array.elements (all_elements (pieces_of ps))) (sym split)
    ∙ c.loop-array.invariant

pub returns : goal.returns
returns c =
    let items = c.deref-array-items.result.now in
    c.into_trees.ensures
    ∙ ap (λ (ps : List Part). with_elements c.loop-array.elements (all_elements (pieces_of ps))) (sym (drop-whole items c.loop-array.array-index c.loop-array-test.false))
    ∙ c.loop-array.invariant
    ∙ ap (λ (ps : List Part). with_elements [] (all_elements (pieces_of ps))) (c.deref-array-items.ensures.value ∙ c.reverse.ensures.items)
    ∙ ap (λ (ps : List Piece). with_elements [] (all_elements ps)) (sym (reverse-map piece_of c.args.arrays.items))
