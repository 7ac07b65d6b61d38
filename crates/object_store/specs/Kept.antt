-- How objects are kept: those that came since room was last made by their keys, and the others on shelves.
use Rattle.std.specs.Prelude.{◌≡◌, ℕ, ◌<◌, List, [], ◌∷◌, ◌++◌, map, Option, Some, Bool, ◌&&◌, bytes_eq, string_bytes}
use Rattle.std.specs.BTreeSet.{BTreeSet, contains}
use Rattle.std.specs.Cmp.Lexicographic.{slice_cmp}
use Rattle.std.specs.Ordering.{nat_cmp}
use Rattle.std.specs.List.{filter_map, flat_map, list_any}
use Rattle.std.specs.Option.{option_and_then, option_map, option_or}
use Rattle.std.specs.declared.random_state.RandomState.{RandomState}
use Rattle.std.specs.declared.alloc.Global.{Global}
use Rattle.std.specs.declared.string.String.{String}
use Rattle.indexmap.specs.IndexMap.{IndexMap, get, get_by_text, keys, spare}
use Rattle.std.specs.FinMap as finite
use Rattle.doc_tree.specs.Doc.{Doc}
use Rattle.object_store.specs.declared.key.Key.{Key}
use Rattle.object_store.specs.Keys.{same_key}
use Rattle.object_store.specs.Objects.{Objects}
use Rattle.object_store.specs.Shelving.{shelf_of, name_on, key_at, holds_items}

-- objects by their keys
abbrev pub Late : Type 0
Late = IndexMap Key Doc RandomState

-- objects by the names that they have on one shelf
abbrev pub Shelf : Type 0
Shelf = IndexMap (String Global) Doc RandomState

-- shelves by their words
abbrev pub Shelves : Type 0
Shelves = IndexMap (String Global) Shelf RandomState

-- the object of this name on a shelf, if there is a shelf
abbrev pub object_on : Option Shelf → List ℕ → Option Doc
object_on shelf name = option_and_then (λ (s : Shelf). get_by_text s name) shelf

-- the object of this name on the shelf of this word
abbrev pub on_shelf : Shelves → List ℕ → List ℕ → Option Doc
on_shelf shelves word name = object_on (get_by_text shelves word) name

-- the object of a key on its shelf
abbrev pub settled : Shelves → Key → Option Doc
settled shelves k = on_shelf shelves (shelf_of k) (name_on k)

-- the object of a key: what came late goes before what is on the shelf
abbrev pub found : Late → Shelves → Key → Option Doc
found late shelves k = option_or (get same_key late k) (settled shelves k)

-- the shelf of this word has room
abbrev pub HasRoom : Shelves → List ℕ → Type 0
HasRoom shelves word = (shelf : Shelf) × (get_by_text shelves word ≡ Some shelf) × (0 < spare shelf)

-- the last of those that came late has this name on its shelf, and there is room for it
abbrev pub IsReady : Late → Shelves → List ℕ → Type 0
IsReady late shelves name =
    (front : List (Key × Doc)) → (k : Key) → (t : Doc) → late.entries ≡ front ++ (k, t) ∷ [] → (name ≡ name_on k) × HasRoom shelves (shelf_of k)

-- the keys of what is on a shelf
abbrev pub keys_on : String Global × Shelf → List Key
keys_on entry = map (λ (name : String Global). key_at (string_bytes entry.0) (string_bytes name)) (keys entry.1)

-- the keys of all that is kept
abbrev pub all_keys : Late → Shelves → List Key
all_keys late shelves = keys late ++ flat_map keys_on shelves.entries

-- a key and its document, where there is an object
abbrev pub with_doc : (Key → Option Doc) → Key → Option (Key × Doc)
with_doc object k = option_map (λ (t : Doc). (k, t)) (object k)

-- the objects by their keys
abbrev pub objects_in : Late → Shelves → Objects
objects_in late shelves = finite.from_entries (filter_map (with_doc (found late shelves)) (all_keys late shelves))

-- the name is in the set
abbrev pub has : BTreeSet (List ℕ) → List ℕ → Bool
has names name = contains (slice_cmp nat_cmp) names name

-- a shelf has this item by this name
abbrev pub item_on : List ℕ → List ℕ → String Global → Bool
item_on word item name = bytes_eq item (key_at word (string_bytes name)).name

-- among these shelves one that may have items has this item
abbrev pub item_among : List ℕ → List (String Global × Shelf) → Bool
item_among item entries = list_any (λ (e : String Global × Shelf). holds_items (string_bytes e.0) && list_any (item_on (string_bytes e.0) item) (keys e.1)) entries
