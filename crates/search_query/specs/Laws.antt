-- What holds of every partial row.
use Rattle.std.specs.Prelude.{◌≡◌, ℕ, List, [], ◌∷◌, Some, option_map, codes}
use Rattle.std.specs.Map.{keys_of}
use Rattle.doc_tree.specs.Doc.{Doc, dict, pairs_list}
use Rattle.doc_tree.specs.Part.{at}
use Rattle.doc_tree.specs.declared.kind.Kind.{Kind}
use Rattle.search_query.specs.Partial.{Wanted, partial_row}

-- the keys of a dict, in order; another document has none
abbrev pub keys_in : Doc → List (List ℕ)
keys_in (dict pairs) = keys_of (pairs_list pairs)
keys_in d = []

-- the data of a partial row has exactly the keys of the partial search
abbrev pub RowsHaveTheKeys : Type 0
RowsHaveTheKeys = (kind : Kind) (partial : List Wanted) (url : List ℕ) (object : Doc) → option_map keys_in (at (codes "data" ∷ []) (partial_row kind partial url object)) ≡ Some (keys_of partial)
