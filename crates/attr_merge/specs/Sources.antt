-- The layers that a sources file gives.
use Rattle.std.specs.Prelude.{ℕ, ℤ, pos, negsuc, Bool, ◌&&◌, ◌==◌, nat_le, cond, List, [], ◌∷◌, Option, Some, None, Result, Ok, Err, option_and_then, option_map, codes, is_some}
use Rattle.std.specs.List.{filter_map, flat_map, list_all}
use Rattle.doc_tree.specs.Text.{text_of}
use Rattle.doc_tree.specs.Doc.{Doc, null, boolean, whole, words, list, dict, docs_list}
use Rattle.doc_tree.specs.Part.{part_at}
use Rattle.doc_tree.specs.Read.{reads}
use Rattle.doc_tree.specs.Tree.{tree_of}
use Rattle.doc_tree.specs.declared.read.ReadFault.{ReadFault}
use Rattle.attr_merge.specs.declared.layers.Layer.{Layer}

-- the levels, lowest first
abbrev pub levels : List ℕ
levels = 1 ∷ 2 ∷ 3 ∷ 4 ∷ 5 ∷ 6 ∷ 7 ∷ 8 ∷ 9 ∷ 10 ∷ 11 ∷ 12 ∷ 13 ∷ 14 ∷ 15 ∷ []

-- the level that a number is: one of 1 to 15
abbrev pub level_in : ℤ → Option ℕ
level_in (pos n) = cond (nat_le 1 n && nat_le n 15) (Some n) None
level_in (negsuc n) = None

-- the level that a document is
abbrev pub level_of : Doc → Option ℕ
level_of null = None
level_of (boolean b) = None
level_of (whole z) = level_in z
level_of (words s) = None
level_of (list ds) = None
level_of (dict ps) = None

-- the document, if it is a dict
abbrev pub dict_of : Doc → Option Doc
dict_of null = None
dict_of (boolean b) = None
dict_of (whole z) = None
dict_of (words s) = None
dict_of (list ds) = None
dict_of (dict ps) = Some (dict ps)

-- the layer of this level that an entry gives by its name and its tree
abbrev pub layer_with : Doc → ℕ → Option Layer
layer_with d level =
    option_and_then (λ name. option_map (λ tree. record { level = level; name = name; tree = tree_of tree }) (option_and_then dict_of (part_at (codes "tree") d)))
    (option_and_then text_of (part_at (codes "name") d))

-- the layer that an entry gives: a dict with a `level` from 1 to 15, a text `name` and a dict `tree`
abbrev pub layer_of : Doc → Option Layer
layer_of d = option_and_then (layer_with d) (option_and_then level_of (part_at (codes "level") d))

-- the layer, if it is of this level
abbrev pub if_at : ℕ → Layer → Option Layer
if_at level layer = cond (layer.level == level) (Some layer) None

-- the layer that an entry gives, if it is of this level
abbrev pub layer_at : ℕ → Doc → Option Layer
layer_at level d = option_and_then (if_at level) (layer_of d)

-- an entry gives a layer
abbrev pub is_entry : Doc → Bool
is_entry d = is_some (layer_of d)

-- the layers of these entries: those of level 1 in their order, then those of level 2, and so on
abbrev pub by_level : List Doc → List Layer
by_level entries = flat_map (λ level. filter_map (layer_at level) entries) levels

-- the layers that a document gives, sorted by their levels: a list, each of whose entries gives one
abbrev pub layers_of : Doc → Option (List Layer)
layers_of null = None
layers_of (boolean b) = None
layers_of (whole z) = None
layers_of (words s) = None
layers_of (list ds) = cond (list_all is_entry (docs_list ds)) (Some (by_level (docs_list ds))) None
layers_of (dict ps) = None

-- the layers of what was read
abbrev pub layers_read : Result Doc ReadFault → Option (List Layer)
layers_read (Ok d) = layers_of d
layers_read (Err fault) = None

-- the layers that the bytes of a sources file give, if they have its format
abbrev pub layers_in : List ℕ → Option (List Layer)
layers_in bytes = layers_read (reads bytes)
