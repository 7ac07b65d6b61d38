use Rattle.std.proofs.Common.{◌≡◌, ◌+◌, ◌∷◌, ◌++◌, [], List, ℕ, map, drop, sym, ap, subst, ◌∙◌, arith}
use Rattle.std.proofs.lemmas.List.{drop_more}
use Rattle.std.specs.Map.{keys_of}
use Rattle.doc_tree.specs.Doc.{Doc, pairs_of}
use Rattle.doc_tree.specs.Part.{pair_at}
use Rattle.doc_tree.specs.Tree.{pair_of}
use Rattle.doc_tree.specs.Valid.{InOrder}
use Rattle.doc_tree.specs.declared.tree.Field.{Field}
use Rattle.attr_merge.specs.Parts.{gathered_in, piece_of}
use Rattle.attr_merge.specs.Pieces.{with_value}
use Rattle.attr_merge.proofs.FieldLemmas.{key-once, field-added}
use Rattle.attr_merge.proofs.children.add_fields.Goals as goal

pub loop-field-preserved : goal.loop-field-preserved
loop-field-preserved c = λ key.
    let items = c.as_slice-field-items.result.now in
    let i = c.loop-field.field-index in
    let field = c.field-item.result in
    let piece = piece_of c.args.part.now in
    let before = gathered_in c.loop-field.children.entries key in
    let split : drop i items ≡ field ∷ drop (i + 1) items = drop_more items i field (omega arith) ∙ ap (λ (f : Field). f ∷ drop (i + 1) items) (sym c.field-item.is) in
    let order : InOrder (keys_of (map pair_of items)) = subst (λ (ps : List (List ℕ × Doc)). InOrder (keys_of ps)) (sym c.as_slice-field-items.ensures.value) c.as_slice-field-items.ensures.order in
    field-added key piece before (gathered_in c.add_field.new.children.entries key) (pair_of field) (map pair_of (drop (i + 1) items)) (c.in_ok-add_field.ensures key) (key-once items i field (drop (i + 1) items) split order)
    ∙ ap (λ (fs : List Field). before ++ with_value piece (pair_at key (pairs_of (map pair_of fs))) []) (sym split)
    ∙ c.loop-field.invariant key
