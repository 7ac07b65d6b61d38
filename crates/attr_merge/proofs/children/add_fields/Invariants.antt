use Rattle.std.proofs.Common.{◌≡◌, ◌++◌, [], List, ℕ, map, drop}
use Rattle.doc_tree.specs.Doc.{pairs_of}
use Rattle.doc_tree.specs.Part.{pair_at}
use Rattle.doc_tree.specs.Tree.{pair_of}
use Rattle.attr_merge.specs.Parts.{gathered_in, piece_of}
use Rattle.attr_merge.specs.Pieces.{with_value}
use Rattle.attr_merge.proofs.children.add_fields.Given as goal

-- what is gathered so far, and what the fields that are left have
abbrev pub invariant-loop-field : goal.invariant-loop-field
invariant-loop-field l = (key : List ℕ) →
    gathered_in l.children.entries key ++ with_value (piece_of l.part) (pair_at key (pairs_of (map pair_of (drop l.field-index l.field-items)))) []
    ≡ gathered_in l.initial.children.entries key ++ with_value (piece_of l.part) (pair_at key (pairs_of l.fields)) []
