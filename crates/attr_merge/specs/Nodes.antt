-- The leaves of what is merged so far.
use Rattle.std.specs.Prelude.{ℕ, List, ◌∷◌, map}
use Rattle.std.specs.declared.vec.Vec.{Vec}
use Rattle.attr_merge.specs.declared.nodes.Leaf.{Leaf}

-- the path of a leaf with its origin
abbrev pub leaf_of : Leaf → List (List ℕ) × List ℕ
leaf_of leaf = (leaf.path.items, leaf.origin.items)

-- the paths of leaves with their origins
abbrev pub leaves_of : List Leaf → List (List (List ℕ) × List ℕ)
leaves_of leaves = map leaf_of leaves

-- the leaves below a key, with their whole paths
abbrev pub below_key : List ℕ → List (List (List ℕ) × List ℕ) → List (List (List ℕ) × List ℕ)
below_key key leaves = map (λ (leaf : List (List ℕ) × List ℕ). (key ∷ leaf.0, leaf.1)) leaves

-- an entry of the map of leaves
abbrev pub entry_of : {A B : Type 0} → Vec (List ℕ) A × Vec ℕ B → List (List ℕ) × List ℕ
entry_of e = (e.0.items, e.1.items)

-- the entries of the map of leaves
abbrev pub entries_of : {A B : Type 0} → List (Vec (List ℕ) A × Vec ℕ B) → List (List (List ℕ) × List ℕ)
entries_of es = map entry_of es

-- the path that a key of the map of leaves is
abbrev pub key_path : {A : Type 0} → Vec (List ℕ) A → List (List ℕ)
key_path key = key.items
