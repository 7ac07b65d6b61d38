-- The layers of a merge.
use Rattle.std.specs.Prelude.{ℕ, suc, List, [], ◌∷◌, Bool, true, false, ◌&&◌, IsTrue, nat_le}
use Rattle.doc_tree.specs.Doc.{Doc, null, boolean, whole, words, list, dict}
use Rattle.doc_tree.specs.Tree.{doc_of}
use Rattle.attr_merge.specs.Pieces.{Piece}
use Rattle.attr_merge.specs.declared.layers.Layer.{Layer}

-- whether a document is a dict
abbrev pub is_dict : Doc → Bool
is_dict null = false
is_dict (boolean b) = false
is_dict (whole z) = false
is_dict (words s) = false
is_dict (list ds) = false
is_dict (dict ps) = true

-- whether levels go from this one to 15 and don't fall, and each tree is a dict
abbrev pub are_from : ℕ → List Layer → Bool
are_from lowest [] = true
are_from lowest (layer ∷ layers) = nat_le lowest layer.level && nat_le layer.level 15 && is_dict (doc_of layer.tree) && are_from layer.level layers

-- levels lie in 1 to 15 and don't fall, and each tree is a dict
abbrev pub AreLayers : List Layer → Type 0
AreLayers layers = IsTrue (are_from 1 layers)

-- the layers above others, each with its position, highest first
abbrev pub stacked : ℕ → List Layer → List Piece → List Piece
stacked position [] below = below
stacked position (layer ∷ layers) below =
    stacked (suc position) layers (record { position = position; level = layer.level; document = doc_of layer.tree } ∷ below)

-- the layers, highest first: a later one stands above an earlier one
abbrev pub highest_first : List Layer → List Piece
highest_first layers = stacked 0 layers []
