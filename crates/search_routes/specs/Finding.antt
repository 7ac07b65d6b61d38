-- What a search finds, and the page that shows it.
use Rattle.std.specs.Prelude.{ℕ, Bool, false, not, List, [], ◌∷◌, ◌++◌, map, filter, length, codes, Option, Some, None, is_none, unwrap_or}
use Rattle.access_lists.specs.declared.perm.Perm.TheVariants as permission
use Rattle.doc_tree.specs.Doc.{Doc, null}
use Rattle.doc_tree.specs.declared.kind.Kind.TheVariants as kinds
use Rattle.object_finder.specs.Found.{found_in}
use Rattle.object_finder.specs.Indexes.{index_of, kind_of, names_of, object_at}
use Rattle.object_finder.specs.declared.indexes.Index.{Index}
use Rattle.object_finder.specs.declared.indexes.Index.TheVariants.{Nodes, Roles, Environments, Clients, Bag}
use Rattle.object_store.specs.Items.{item_front}
use Rattle.object_store.specs.Objects.{key}
use Rattle.query_text.specs.Query.{Ors}
use Rattle.search_query.specs.Pages.{page_doc, shown}
use Rattle.search_query.specs.Partial.{Wanted, partial_row}
use Rattle.org_core.specs.Contexts.{Context}
use Rattle.org_core.specs.Needs.{lacking}
use Rattle.org_core.specs.Outcomes.{Decided, shows, does_by}
use Rattle.org_requests.specs.Replies.{org_uri}
use Rattle.org_core.specs.States.{has_object, objects_of}
use Rattle.org_core.specs.declared.needs.Need.{Need}
use Rattle.org_core.specs.declared.needs.Need.TheVariants.{Listed}
use Rattle.search_routes.specs.declared.operations.Asked.{Asked}
use Rattle.search_routes.specs.declared.operations.Search.{Search}

-- there is no such index: those of the four kinds are there, and else that of each data bag
abbrev pub lacks_index : Context → Index → Bool
lacks_index context Nodes = false
lacks_index context Roles = false
lacks_index context Environments = false
lacks_index context Clients = false
lacks_index context (Bag bag) = not (has_object context.state kinds.Bag bag)

-- the permission to read the object of this name in an index: by its own access list, and for an item by that of its bag
abbrev pub read_need : Index → List ℕ → Need
read_need Nodes name = Listed permission.Read (key kinds.Node name)
read_need Roles name = Listed permission.Read (key kinds.Role name)
read_need Environments name = Listed permission.Read (key kinds.Environment name)
read_need Clients name = Listed permission.Read (key kinds.Client name)
read_need (Bag bag) id = Listed permission.Read (key kinds.Bag bag)

-- the caller may read it. The operator may read everything
abbrev pub may_read : Context → Index → List ℕ → Bool
may_read context index name = is_none (lacking context (read_need index name ∷ []))

-- of the objects that a query finds those that the caller may read: no other is listed, and no other counts
abbrev pub found : Context → Index → Ors → List (List ℕ)
found context index query = filter (may_read context index) (found_in index query (objects_of context.state))

-- what stands before the names of an index's objects in their paths
abbrev pub front_of : Index → List ℕ
front_of Nodes = codes "/nodes/"
front_of Roles = codes "/roles/"
front_of Environments = codes "/environments/"
front_of Clients = codes "/clients/"
front_of (Bag bag) = codes "/data/" ++ item_front bag

-- the path of the object of this name in an index
abbrev pub path_of : List ℕ → Index → List ℕ → List ℕ
path_of org index name = (org_uri org ++ front_of index) ++ name

-- the object of this name in an index, of which each that is found is there
abbrev pub object_of : Context → Index → List ℕ → Doc
object_of context index name = unwrap_or (object_at index (objects_of context.state) name) null

-- the row of an object: as GET of it shows it, or the keys that are asked for
abbrev pub row_of : Context → Index → Option (List Wanted) → List ℕ → Doc
row_of context index None name = object_of context index name
row_of context index (Some partial) name = partial_row (kind_of index) partial (path_of context.org index name) (object_of context index name)

-- the names that a page shows
abbrev pub shown_of : Asked → List (List ℕ) → List (List ℕ)
shown_of asked names = shown asked.start asked.rows names

-- their rows
abbrev pub rows_of : Context → Index → Option (List Wanted) → List (List ℕ) → List Doc
rows_of context index partial names = map (row_of context index partial) names

-- the page of what was found, which tells how many they are in all
abbrev pub page_of : Context → Index → Search → List (List ℕ) → Doc
page_of context index search names = page_doc (rows_of context index search.partial (shown_of search.asked names)) search.asked.start (length names)

-- 200 with that page. Each object that it shows was looked at
abbrev pub shows_page : Context → Index → Search → List (List ℕ) → Decided
shows_page context index search names = does_by (shows (page_of context index search names)) [] (length (shown_of search.asked names))

-- what a search does
abbrev pub search_done : Context → Search → Decided
search_done context search = shows_page context (index_of search.index) search (found context (index_of search.index) search.asked.query)

-- of how many objects the index is that it searches
abbrev pub searched : Context → Search → ℕ
searched context search = length (names_of (index_of search.index) (objects_of context.state))
