-- What holds of the objects that queries find.
use Rattle.std.specs.Prelude.{◌≡◌, ◌↔◌, ℕ, List, Some, IsTrue}
use Rattle.std.specs.List.{Contains}
use Rattle.doc_tree.specs.Doc.{Doc}
use Rattle.object_store.specs.Objects.{Objects}
use Rattle.query_text.specs.Query.{Ors}
use Rattle.search_query.specs.Matching.{Meets}
use Rattle.search_query.specs.Pair.{Pair}
use Rattle.search_query.specs.Pairs.{pairs_of}
use Rattle.object_finder.specs.Found.{found_in}
use Rattle.object_finder.specs.Indexes.{kind_of, names_of, object_at}
use Rattle.object_finder.specs.Meeting.{meets}
use Rattle.object_finder.specs.declared.indexes.Index.{Index}

-- the object of this name is there, and its pairs meet the query
abbrev pub Matches : Index → Ors → Objects → List ℕ → Type 0
Matches index query objects name = (object : Doc) × (object_at index objects name ≡ Some object) × Meets query (pairs_of (kind_of index) object)

-- a name is found exactly where it is one of the index's and its object matches
abbrev pub FoundAreThoseThatMatch : Type 0
FoundAreThoseThatMatch =
    (index : Index) (query : Ors) (objects : Objects) (name : List ℕ) → Contains (found_in index query objects) name ↔ (Contains (names_of index objects) name × Matches index query objects name)

-- whether pairs meet a query is told truly
abbrev pub MeetingIsTold : Type 0
MeetingIsTold = (query : Ors) (pairs : List Pair) → IsTrue (meets query pairs) ↔ Meets query pairs
