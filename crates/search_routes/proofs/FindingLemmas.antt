-- What a search does, from what each call of it gave.
use Rattle.std.proofs.Common.{◌≡◌, ℕ, List, filter, ◌∙◌}
use Rattle.object_finder.specs.Indexes.{index_of}
use Rattle.object_finder.specs.Found.{found_in}
use Rattle.object_finder.specs.declared.indexes.Index.{Index}
use Rattle.org_core.specs.Contexts.{Context}
use Rattle.org_core.specs.States.{objects_of}
use Rattle.search_routes.specs.declared.operations.Search.{Search}
use Rattle.search_routes.specs.Finding.{found, may_read, search_done, shows_page}

kept_is : (context : Context) (search : Search) (index : Index) (names kept : List (List ℕ)) → index ≡ index_of search.index → names ≡ found_in (index_of search.index) search.asked.query (objects_of context.state)
    → kept ≡ filter (may_read context index) names → kept ≡ found context (index_of search.index) search.asked.query
kept_is context search index names kept is_index is_found is_kept = is_kept ∙ (λ i. filter (may_read context (is_index i)) (is_found i))

-- the page of what was found in the index of the word, and may be read
pub page_is : (context : Context) (search : Search) (index : Index) (names kept : List (List ℕ)) → index ≡ index_of search.index → names ≡ found_in (index_of search.index) search.asked.query (objects_of context.state)
    → kept ≡ filter (may_read context index) names → shows_page context index search kept ≡ search_done context search
page_is context search index names kept is_index is_found is_kept = λ i. shows_page context (is_index i) search (kept_is context search index names kept is_index is_found is_kept i)
