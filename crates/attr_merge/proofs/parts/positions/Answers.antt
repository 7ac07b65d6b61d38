use Rattle.std.proofs.Common.{◌≡◌, map, reverse, sym, ap, ◌∙◌}
use Rattle.attr_merge.specs.Parts.{piece_of, pieces_of}
use Rattle.attr_merge.specs.Pieces.{Piece}
use Rattle.attr_merge.specs.declared.parts.Part.{Part}
use Rattle.attr_merge.proofs.ListLemmas.{reverse-map, map-map, take-whole}
use Rattle.attr_merge.proofs.parts.positions.Goals as goal

pub returns : goal.returns
returns c =
    let parts = c.args.parts.now in
    let all : c.loop-part.found.items ≡ map (λ (p : Part). p.position) parts = c.loop-part.invariant ∙ ap (map (λ (p : Part). p.position)) (take-whole parts c.loop-part.part-index c.loop-part-test.false) in
    c.reverse.ensures.items
    ∙ ap reverse (all ∙ sym (map-map piece_of (λ (piece : Piece). piece.position) parts))
    ∙ reverse-map (λ (piece : Piece). piece.position) (pieces_of parts)
