-- What a merge of layers is, path by path.
use Rattle.std.specs.Prelude.{◌≡◌, ℕ, List, [], ◌∷◌, None}
use Rattle.doc_tree.specs.Doc.{Doc, Pairs, dict}
use Rattle.doc_tree.specs.Part.{at}
use Rattle.attr_merge.specs.Effective.{IsEffective}
use Rattle.attr_merge.specs.Layers.{highest_first}
use Rattle.attr_merge.specs.Merged.{Effective, origin_at}
use Rattle.attr_merge.specs.Pieces.{Piece}
use Rattle.attr_merge.specs.declared.layers.Layer.{Layer}

-- at each path below the root stand the value and the origin of the effective leaf there
abbrev pub AreEffective : List Piece → Doc → List (List (List ℕ) × List ℕ) → Type 0
AreEffective pieces document leaves =
    (key : List ℕ) (path : List (List ℕ)) → IsEffective pieces (key ∷ path) (at (key ∷ path) document) (origin_at (key ∷ path) leaves)

-- the root is a dict and no leaf, and at each path below it stand the value and the origin of the effective leaf there
abbrev pub IsMergeOf : List Layer → Effective → Type 0
IsMergeOf layers merged =
    ((ps : Pairs) × (merged.document ≡ dict ps)) × (origin_at [] merged.leaves ≡ None) × AreEffective (highest_first layers) merged.document merged.leaves
