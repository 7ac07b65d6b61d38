-- The objects of an index that a query finds.
use Rattle.std.specs.Prelude.{ℕ, Bool, false, List, Option, Some, None}
use Rattle.std.specs.List.{filter}
use Rattle.doc_tree.specs.Doc.{Doc}
use Rattle.doc_tree.specs.declared.kind.Kind.{Kind}
use Rattle.object_store.specs.Objects.{Objects}
use Rattle.query_text.specs.Query.{Ors}
use Rattle.search_query.specs.Pairs.{pairs_of}
use Rattle.object_finder.specs.Indexes.{kind_of, names_of, object_at}
use Rattle.object_finder.specs.Meeting.{meets}
use Rattle.object_finder.specs.declared.indexes.Index.{Index}

-- there is an object, and its pairs meet the query
abbrev pub finds : Ors → Kind → Option Doc → Bool
finds query kind None = false
finds query kind (Some object) = meets query (pairs_of kind object)

-- the query finds the object of this name in an index
abbrev pub is_found : Index → Ors → Objects → List ℕ → Bool
is_found index query objects name = finds query (kind_of index) (object_at index objects name)

-- the names of the objects of an index that a query finds, in order
abbrev pub found_in : Index → Ors → Objects → List (List ℕ)
found_in index query objects = filter (is_found index query objects) (names_of index objects)
