-- The effective leaf at a path: its value, and the layers that it comes from.
use Rattle.std.specs.Prelude.{◌≡◌, ℕ, List, [], ◌∷◌, ◌++◌, Option, Some, None}
use Rattle.doc_tree.specs.Doc.{Doc, null, boolean, whole, words, list, dict, Pairs, no_pairs}
use Rattle.attr_merge.specs.Families.{counting_below, joined, positions}
use Rattle.attr_merge.specs.Pieces.{Piece, seen}

-- a leaf with this value and this origin
abbrev pub IsLeaf : Doc → List ℕ → Option Doc → Option (List ℕ) → Type 0
IsLeaf leaf from value origin = (value ≡ Some leaf) × (origin ≡ Some from)

-- no leaf, but the dict of the leaves below, which is what a dict has at every path below
abbrev pub IsAboveLeaves : Option Doc → Option (List ℕ) → Type 0
IsAboveLeaves value origin = ((leaves : Pairs) × (value ≡ Some (dict leaves))) × (origin ≡ None)

-- what is seen at each path that goes on from one: by the next key, and the keys after that
abbrev pub Below : Type 0
Below = List ℕ → List (List ℕ) → List Piece

-- nothing is seen at any path below
abbrev pub NothingBelow : Below → Type 0
NothingBelow below = (key : List ℕ) (path : List (List ℕ)) → below key path ≡ []

-- something is seen at a path below
abbrev pub SomethingBelow : Below → Type 0
SomethingBelow below = (key : List ℕ) × (path : List (List ℕ)) × (below key path ≡ [] → ⊥)

-- what the highest value decides, which is never null: a scalar or an array is a leaf, and a dict is the leaf `{}` exactly where nothing is seen below it
abbrev pub DecidesTop : Doc → Piece → List Piece → Below → Option Doc → Option (List ℕ) → Type 0
DecidesTop null top rest below value origin = IsLeaf null (top.position ∷ []) value origin
DecidesTop (boolean b) top rest below value origin = IsLeaf (boolean b) (top.position ∷ []) value origin
DecidesTop (whole z) top rest below value origin = IsLeaf (whole z) (top.position ∷ []) value origin
DecidesTop (words s) top rest below value origin = IsLeaf (words s) (top.position ∷ []) value origin
DecidesTop (list ds) top rest below value origin = IsLeaf (joined top (counting_below top rest)) (positions (top ∷ counting_below top rest)) value origin
DecidesTop (dict ps) top rest below value origin =
    (NothingBelow below → IsLeaf (dict no_pairs) (top.position ∷ []) value origin) × (SomethingBelow below → IsAboveLeaves value origin)

-- what the values at a path decide, highest first: where there are none, there is nothing
abbrev pub Decides : List Piece → Below → Option Doc → Option (List ℕ) → Type 0
Decides [] below value origin = (value ≡ None) × (origin ≡ None)
Decides (top ∷ rest) below value origin = DecidesTop top.document top rest below value origin

-- these are the value at a path and the origin of the leaf there, by what is seen at it and below it
abbrev pub IsEffective : List Piece → List (List ℕ) → Option Doc → Option (List ℕ) → Type 0
IsEffective pieces path value origin = Decides (seen path pieces) (λ key more. seen (path ++ key ∷ more) pieces) value origin
