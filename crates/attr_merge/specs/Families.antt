-- The families of levels, and what their arrays make together.
use Rattle.std.specs.Prelude.{ℕ, List, [], ◌∷◌, ◌++◌, Bool, true, false, nat_le, map, reverse, if◌then◌else◌}
use Rattle.doc_tree.specs.Doc.{Doc, null, boolean, whole, words, list, dict, docs_of, docs_list}
use Rattle.attr_merge.specs.Elements.{with_elements}
use Rattle.attr_merge.specs.Pieces.{Piece}
use Rattle.attr_merge.specs.declared.families.Family.{Family}
use Rattle.attr_merge.specs.declared.families.Family.TheVariants.{Default, Normal, Override, Automatic}

-- the family of a level: default up to 6, normal up to 8, override up to 14, and then automatic
abbrev pub family_of : ℕ → Family
family_of level = if nat_le level 6 then Default else if nat_le level 8 then Normal else if nat_le level 14 then Override else Automatic

-- the arrays of the default and of the override family are combined
abbrev pub combines : Family → Bool
combines Default = true
combines Normal = false
combines Override = true
combines Automatic = false

-- whether families are the same
abbrev pub same_family : Family → Family → Bool
same_family Default Default = true
same_family Default other = false
same_family Normal Normal = true
same_family Normal other = false
same_family Override Override = true
same_family Override other = false
same_family Automatic Automatic = true
same_family Automatic other = false

-- whether a document is an array
abbrev pub is_array : Doc → Bool
is_array null = false
is_array (boolean b) = false
is_array (whole z) = false
is_array (words s) = false
is_array (list ds) = true
is_array (dict ps) = false

-- the arrays of a family, down to the family's highest value that isn't one
abbrev pub arrays_above : Family → List Piece → List Piece
arrays_above family [] = []
arrays_above family (piece ∷ below) =
    if same_family family (family_of piece.level)
    then (if is_array piece.document then piece ∷ arrays_above family below else [])
    else arrays_above family below

-- the arrays that count below the highest value, an array: those of its family, where that combines its arrays
abbrev pub counting_below : Piece → List Piece → List Piece
counting_below top below = if combines (family_of top.level) then arrays_above (family_of top.level) below else []

-- the elements of an array
abbrev pub elements : Doc → List Doc
elements null = []
elements (boolean b) = []
elements (whole z) = []
elements (words s) = []
elements (list ds) = docs_list ds
elements (dict ps) = []

-- the elements of these arrays, one array after the other
abbrev pub all_elements : List Piece → List Doc
all_elements [] = []
all_elements (piece ∷ pieces) = elements piece.document ++ all_elements pieces

-- the value that arrays make, highest first: one alone stays as it is, and of more the elements are joined, lowest array first
abbrev pub joined : Piece → List Piece → Doc
joined top [] = top.document
joined top (next ∷ more) = list (docs_of (with_elements [] (all_elements (reverse (top ∷ next ∷ more)))))

-- the positions of these, lowest first
abbrev pub positions : List Piece → List ℕ
positions pieces = map (λ (piece : Piece). piece.position) (reverse pieces)
