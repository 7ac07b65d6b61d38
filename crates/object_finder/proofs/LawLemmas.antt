-- What is found, and the test by which it is.
use Rattle.std.proofs.Common.{◌≡◌, ◌↔◌, true, IsTrue, ℕ, List, Option, Some, None, Contains, ap, refl, sym, ◌∙◌, inl, inr, true≢false}
use Rattle.doc_tree.specs.Doc.{Doc}
use Rattle.doc_tree.specs.declared.kind.Kind.{Kind}
use Rattle.object_store.specs.Objects.{Objects}
use Rattle.query_text.specs.Query.{Ors}
use Rattle.search_query.specs.Matching.{Meets}
use Rattle.search_query.specs.Pair.{Pair}
use Rattle.search_query.specs.Pairs.{pairs_of}
use Rattle.object_finder.specs.Found.{finds, found_in, is_found}
use Rattle.object_finder.specs.Indexes.{kind_of, names_of, object_at}
use Rattle.object_finder.specs.Laws.{Matches}
use Rattle.object_finder.specs.Meeting.{Decided, holds, meets, meets_or_not}
use Rattle.object_finder.specs.declared.indexes.Index.{Index}
use Rattle.object_finder.proofs.ListLemmas.{filter_from, filter_to}

decided_told : {P : Type 0} (d : Decided P) → IsTrue (holds d) ↔ P
decided_told (inl p) = (λ is. p, λ p. refl)
decided_told (inr not) = (λ is. cc, λ p. absurd (not p))

-- whether pairs meet a query is told truly
pub meeting_told : (query : Ors) (pairs : List Pair) → IsTrue (meets query pairs) ↔ Meets query pairs
meeting_told query pairs = decided_told (meets_or_not query pairs)

abbrev Matching : Ors → Kind → Option Doc → Type 0
Matching query kind found = (object : Doc) × (found ≡ Some object) × Meets query (pairs_of kind object)

matching_from : (query : Ors) (kind : Kind) (found : Option Doc) → finds query kind found ≡ true → Matching query kind found
matching_from query kind None is = absurd (true≢false (sym is))
matching_from query kind (Some object) is = (object, refl, (meeting_told query (pairs_of kind object)).0 is)

matching_to : (query : Ors) (kind : Kind) (found : Option Doc) (object : Doc) → found ≡ Some object → Meets query (pairs_of kind object) → finds query kind found ≡ true
matching_to query kind found object is met = ap (finds query kind) is ∙ (meeting_told query (pairs_of kind object)).1 met

-- a name is found exactly where it is one of the index's and its object matches
pub found_told : (index : Index) (query : Ors) (objects : Objects) (name : List ℕ) → Contains (found_in index query objects) name ↔ (Contains (names_of index objects) name × Matches index query objects name)
found_told index query objects name = (
  λ has. let here = filter_from (is_found index query objects) (names_of index objects) name has in (here.0, matching_from query (kind_of index) (object_at index objects name) here.1),
  λ h. filter_to (is_found index query objects) (names_of index objects) name h.0 (matching_to query (kind_of index) (object_at index objects name) h.1.0 h.1.1 h.1.2),
)
