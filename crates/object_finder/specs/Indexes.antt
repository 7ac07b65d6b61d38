-- The indexes of an organisation by their words, the objects of each, and by which word and name the object of a key is
-- found. Of four kinds the objects are in an index that has the kind's word: `client`, `environment`, `node` and `role`; of
-- each data bag the items are in an index that has the bag's name.
use Rattle.std.specs.Prelude.{ℕ, Bool, ◌&&◌, not, cond, List, [], ◌∷◌, map, Option, Some, None, is_some, option_map, unwrap_or, bytes_eq}
use Rattle.std.specs.FinMap as finite
use Rattle.std.specs.List.{before_first, after_first}
use Rattle.doc_tree.specs.Doc.{Doc}
use Rattle.doc_tree.specs.Kind.{word_of}
use Rattle.doc_tree.specs.declared.kind.Kind.{Kind}
use Rattle.doc_tree.specs.declared.kind.Kind.TheVariants as kinds
use Rattle.object_store.specs.declared.key.Key.{Key}
use Rattle.object_store.specs.Items.{ids_in, item_name}
use Rattle.object_store.specs.Objects.{Objects, key, names_in}
use Rattle.object_store.specs.Shelving.{has_slash, is_slash}
use Rattle.search_query.specs.Pair.{Pair}
use Rattle.search_query.specs.Pairs.{pairs_of}
use Rattle.object_finder.specs.declared.indexes.Index.{Index}
use Rattle.object_finder.specs.declared.indexes.Index.TheVariants.{Nodes, Roles, Environments, Clients, Bag}

-- ---- words

-- the kinds whose objects have an index each, in the order of the bytes of their words
abbrev pub indexed : List Kind
indexed = kinds.Client ∷ kinds.Environment ∷ kinds.Node ∷ kinds.Role ∷ []

-- the words of these four indexes
abbrev pub kinds_words : List (List ℕ)
kinds_words = map word_of indexed

-- the one of the four that has this word, if one has
abbrev pub kinds_index : List ℕ → Option Index
kinds_index word =
    cond (bytes_eq word (word_of kinds.Node)) (Some Nodes)
    (cond (bytes_eq word (word_of kinds.Role)) (Some Roles)
    (cond (bytes_eq word (word_of kinds.Environment)) (Some Environments)
    (cond (bytes_eq word (word_of kinds.Client)) (Some Clients) None)))

-- one of the four has this word
abbrev pub is_kinds : List ℕ → Bool
is_kinds word = is_some (kinds_index word)

-- the index of this word: one of the four, or else the data bag of this name. So no word is that of a bag which is named like
-- one of the four
abbrev pub index_of : List ℕ → Index
index_of word = unwrap_or (kinds_index word) (Bag word)

-- the word has no slash, as no kind's has and no bag's name
abbrev pub is_plain : List ℕ → Bool
is_plain word = not (has_slash word)

-- ---- the objects of an index

-- the kind of the objects of an index
abbrev pub kind_of : Index → Kind
kind_of Nodes = kinds.Node
kind_of Roles = kinds.Role
kind_of Environments = kinds.Environment
kind_of Clients = kinds.Client
kind_of (Bag bag) = kinds.Item

-- the names of the objects of an index, in the order of their bytes: of a bag the ids of its items
abbrev pub names_of : Index → Objects → List (List ℕ)
names_of Nodes objects = names_in kinds.Node objects
names_of Roles objects = names_in kinds.Role objects
names_of Environments objects = names_in kinds.Environment objects
names_of Clients objects = names_in kinds.Client objects
names_of (Bag bag) objects = ids_in bag objects

-- what the object of this name in an index is kept by
abbrev pub key_in : Index → List ℕ → Key
key_in Nodes name = key kinds.Node name
key_in Roles name = key kinds.Role name
key_in Environments name = key kinds.Environment name
key_in Clients name = key kinds.Client name
key_in (Bag bag) id = key kinds.Item (item_name bag id)

-- the object of this name in an index, if there is one
abbrev pub object_at : Index → Objects → List ℕ → Option Doc
object_at index objects name = finite.get objects (key_in index name)

-- the object of this name in the index of this word. A word with a slash has no index, so nothing is found by it
abbrev pub found_by : List ℕ → List ℕ → Objects → Option Doc
found_by word name objects = cond (is_plain word) (object_at (index_of word) objects name) None

-- its pairs, of which one that isn't there has none
abbrev pub pairs_by : List ℕ → List ℕ → Objects → List Pair
pairs_by word name objects = unwrap_or (option_map (pairs_of (kind_of (index_of word))) (found_by word name objects)) []

-- ---- the entry of a key

-- the word of an index, and an object's name in it
abbrev pub Entry : Type 0
Entry = List ℕ × List ℕ

-- an item is found by its id in the index of its bag, where the bag isn't named like one of the four indexes
abbrev pub item_entry : List ℕ → Option Entry
item_entry name = cond (has_slash name && not (is_kinds (before_first is_slash name))) (Some (before_first is_slash name, after_first is_slash name)) None

-- where the object of this kind and name is found. Those of other kinds aren't
abbrev pub entry_at : Kind → List ℕ → Option Entry
entry_at kinds.Org name = None
entry_at kinds.Node name = Some (word_of kinds.Node, name)
entry_at kinds.Role name = Some (word_of kinds.Role, name)
entry_at kinds.Environment name = Some (word_of kinds.Environment, name)
entry_at kinds.Bag name = None
entry_at kinds.Client name = Some (word_of kinds.Client, name)
entry_at kinds.User name = None
entry_at kinds.Group name = None
entry_at kinds.Container name = None
entry_at kinds.Item name = item_entry name
entry_at kinds.Cookbook name = None
entry_at kinds.Artifact name = None
entry_at kinds.Policy name = None
entry_at kinds.PolicyGroup name = None
entry_at kinds.Acl name = None
entry_at kinds.Sandbox name = None
entry_at kinds.File name = None

-- and the object of a key
abbrev pub entry_of : Key → Option Entry
entry_of key = entry_at key.kind key.name
