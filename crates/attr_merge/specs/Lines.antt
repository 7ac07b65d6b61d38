-- The lines that explain merged attributes.
use Rattle.std.specs.Prelude.{◌≡◌, ℕ, pos, Bool, true, false, if◌then◌else◌, List, [], ◌∷◌, ◌++◌, map, Option, Some, None, unwrap_or, slice_get, codes}
use Rattle.std.specs.List.{flat_map}
use Rattle.std.specs.List.Sorted.{IsStrictlySortedBy}
use Rattle.doc_tree.specs.Doc.{Doc, list, words, whole, docs_of}
use Rattle.doc_tree.specs.Part.{at}
use Rattle.doc_tree.specs.Written.{text}
use Rattle.attr_merge.specs.Merge.{IsMergeOf}
use Rattle.attr_merge.specs.Merged.{Effective, origin_at, path_cmp}
use Rattle.attr_merge.specs.declared.layers.Layer.{Layer}
use Rattle.attr_merge.specs.Sources.{layers_in}

-- a path as compact JSON: the list of its keys
abbrev pub path_text : List (List ℕ) → List ℕ
path_text path = text (list (docs_of (map words path)))

-- a value as compact JSON
abbrev pub value_text : Option Doc → List ℕ
value_text None = []
value_text (Some d) = text d

-- a layer: its level in decimal, and its name
abbrev pub layer_text : Option Layer → List ℕ
layer_text None = []
layer_text (Some layer) = text (whole (pos layer.level)) ++ (codes " " ++ layer.name)

-- the layers at these positions, with commas between
abbrev pub origin_text : List Layer → Bool → List ℕ → List ℕ
origin_text layers later [] = []
origin_text layers later (position ∷ positions) = (if later then codes ", " else []) ++ (layer_text (slice_get layers position) ++ origin_text layers true positions)

-- the line of a leaf: `PATH = VALUE <- LEVEL NAME, LEVEL NAME`
abbrev pub line : List Layer → Effective → List (List ℕ) → List ℕ
line layers merged path =
    path_text path ++ (codes " = " ++ (value_text (at path merged.document)
    ++ (codes " <- " ++ (origin_text layers false (unwrap_or (origin_at path merged.leaves) []) ++ 10 ∷ []))))

-- the paths of the leaves
abbrev pub paths : Effective → List (List (List ℕ))
paths merged = map (λ leaf. leaf.0) merged.leaves

-- the lines of all leaves, in the order of their paths
abbrev pub lines : List Layer → Effective → List ℕ
lines layers merged = flat_map (line layers merged) (paths merged)

-- these bytes explain the sources of a file: the lines of the merge of its layers
pub record Explains (file printed : List ℕ) : Type 0 where
  pub layers : List Layer
  pub sources : layers_in file ≡ Some layers
  pub merged : Effective
  pub merge : IsMergeOf layers merged
  pub order : IsStrictlySortedBy path_cmp (paths merged)
  pub printed_are : printed ≡ lines layers merged
