-- What holds of effective leaves, without any call.
use Rattle.std.specs.Prelude.{◌↔◌, ℕ, List, ◌∷◌, ◌++◌, Some}
use Rattle.doc_tree.specs.Doc.{Doc}
use Rattle.attr_merge.specs.Effective.{IsEffective, NothingBelow}
use Rattle.attr_merge.specs.Pieces.{Piece, seen}

-- a leaf with this value and this origin is at a path
abbrev pub IsLeafAt : List Piece → List (List ℕ) → Doc → List ℕ → Type 0
IsLeafAt pieces path value origin = IsEffective pieces path (Some value) (Some origin)

-- no leaf lies below a path
abbrev pub NoLeafBelow : List Piece → List (List ℕ) → Type 0
NoLeafBelow pieces path = (key : List ℕ) (more : List (List ℕ)) (value : Doc) (origin : List ℕ) → IsLeafAt pieces (path ++ key ∷ more) value origin → ⊥

-- nothing is seen below a path exactly where no leaf lies below it: so a dict is the leaf `{}` where no leaf lies below it, and else no leaf
abbrev pub LeavesShowWhatIsBelow : Type 0
LeavesShowWhatIsBelow = (pieces : List Piece) (path : List (List ℕ)) → NothingBelow (λ key more. seen (path ++ key ∷ more) pieces) ↔ NoLeafBelow pieces path
