-- What the bodies of replies say.
use Rattle.std.specs.Prelude.{ℕ, ℤ, pos, negsuc, List, ◌++◌, map, ◌||◌, Option, Some, None, option_map, option_and_then, Result, Ok, Err, codes, bytes_eq, if◌then◌else◌}
use Rattle.std.specs.List.{flat_map}
use Rattle.std.specs.Map.{keys_of}
use Rattle.doc_tree.specs.Doc.{Doc, null, boolean, whole, words, list, dict, docs_list, pairs_list}
use Rattle.doc_tree.specs.Part.{part_at}
use Rattle.doc_tree.specs.Read.{reads}
use Rattle.doc_tree.specs.Text.{text_of}
use Rattle.doc_tree.specs.declared.read.ReadFault.{ReadFault}
use Rattle.run_lists.specs.Reading.{each_of}
use Rattle.knife_errands.specs.declared.errands.Listing.{Listing}
use Rattle.knife_errands.specs.declared.errands.Listing.TheVariants.{Of, Bag, Users, Cookbooks}

-- what was read, if it was
abbrev pub if_read : Result Doc ReadFault → Option Doc
if_read (Ok document) = Some document
if_read (Err fault) = None

-- the document that a body is
abbrev pub document_in : List ℕ → Option Doc
document_in body = if_read (reads body)

-- the text at a key
abbrev pub text_at : List ℕ → Doc → Option (List ℕ)
text_at key d = option_and_then text_of (part_at key d)

-- the documents that a list has
abbrev pub items_in : Doc → Option (List Doc)
items_in null = None
items_in (boolean b) = None
items_in (whole z) = None
items_in (words s) = None
items_in (list ds) = Some (docs_list ds)
items_in (dict ps) = None

-- the keys that a dict has, each with its document
abbrev pub pairs_in : Doc → Option (List (List ℕ × Doc))
pairs_in null = None
pairs_in (boolean b) = None
pairs_in (whole z) = None
pairs_in (words s) = None
pairs_in (list ds) = None
pairs_in (dict ps) = Some (pairs_list ps)

-- the text at a key of each document of a list
abbrev pub texts_at : List ℕ → Doc → Option (List (List ℕ))
texts_at key d = option_and_then (each_of (text_at key)) (items_in d)

-- the keys of a dict
abbrev pub keys_in : Doc → Option (List (List ℕ))
keys_in d = option_map keys_of (pairs_in d)

-- the name of a user: the text at `username` of what stands at `user`
abbrev pub user_in : Doc → Option (List ℕ)
user_in d = option_and_then (text_at (codes "username")) (part_at (codes "user") d)

-- the names of a list of users
abbrev pub users_in : Doc → Option (List (List ℕ))
users_in d = option_and_then (each_of user_in) (items_in d)

-- the versions that a cookbook has in a listing
abbrev pub versions_at : Doc → Option (List (List ℕ))
versions_at d = option_and_then (texts_at (codes "version")) (part_at (codes "versions") d)

-- `CB VER`
abbrev pub of_version : List ℕ → List ℕ → List ℕ
of_version cookbook version = cookbook ++ codes " " ++ version

-- `CB VER` for each version
abbrev pub of_cookbook : List ℕ → List (List ℕ) → List (List ℕ)
of_cookbook cookbook versions = map (of_version cookbook) versions

-- `CB VER` for each version of a cookbook of a listing
abbrev pub versions_in : List ℕ × Doc → Option (List (List ℕ))
versions_in entry = option_map (of_cookbook entry.0) (versions_at entry.1)

-- `CB VER` for each version of each of these cookbooks
abbrev pub cookbooks_of : List (List ℕ × Doc) → Option (List (List ℕ))
cookbooks_of entries = option_map (flat_map (λ names. names)) (each_of versions_in entries)

-- `CB VER` for each version of each cookbook of a listing
abbrev pub cookbooks_in : Doc → Option (List (List ℕ))
cookbooks_in d = option_and_then cookbooks_of (pairs_in d)

-- the names that the body of a listing has
abbrev pub names_in : Listing → Doc → Option (List (List ℕ))
names_in (Of kind) d = keys_in d
names_in (Bag name) d = keys_in d
names_in Users d = users_in d
names_in Cookbooks d = cookbooks_in d

-- a number from 0
abbrev pub natural : ℤ → Option ℕ
natural (pos n) = Some n
natural (negsuc n) = None

-- the number from 0 that a document is
abbrev pub count_of : Doc → Option ℕ
count_of null = None
count_of (boolean b) = None
count_of (whole z) = natural z
count_of (words s) = None
count_of (list ds) = None
count_of (dict ps) = None

-- how many a search found
abbrev pub total_in : Doc → Option ℕ
total_in d = option_and_then count_of (part_at (codes "total") d)

-- the key of the name in a row of a search: `id` for an item of a data bag, whose index is the bag's name
abbrev pub name_key : List ℕ → List ℕ
name_key index =
    if bytes_eq index (codes "node") || (bytes_eq index (codes "role") || (bytes_eq index (codes "environment") || bytes_eq index (codes "client")))
    then codes "name" else codes "id"

-- the names in the rows of a search
abbrev pub rows_in : List ℕ → Doc → Option (List (List ℕ))
rows_in index d = option_and_then (texts_at (name_key index)) (part_at (codes "rows") d)
