-- The errands that words spell.
use Rattle.std.specs.Prelude.{ℕ, List, [], ◌∷◌, ◌&&◌, Option, Some, None, option_map, option_and_then, codes, bytes_eq, if◌then◌else◌}
use Rattle.knife_errands.specs.declared.errands.Errand.{Errand}
use Rattle.knife_errands.specs.declared.errands.Errand.TheVariants.{One, RunList, FromFile}
use Rattle.knife_errands.specs.declared.errands.Step.TheVariants.{List as Lists, Show, Create, Delete, Search, Raw}
use Rattle.knife_errands.specs.declared.errands.Listing.{Listing}
use Rattle.knife_errands.specs.declared.errands.Listing.TheVariants.{Of, Bag, Users, Cookbooks}
use Rattle.knife_errands.specs.declared.errands.Thing.{Thing}
use Rattle.knife_errands.specs.declared.errands.Thing.TheVariants.{Named, Item, Cookbook}
use Rattle.knife_errands.specs.declared.errands.FileKind.{FileKind}
use Rattle.knife_errands.specs.declared.errands.FileKind.TheVariants as file
use Rattle.knife_errands.specs.declared.errands.Kind.{Kind}
use Rattle.knife_errands.specs.declared.errands.Kind.TheVariants.{DataBag}
use Rattle.knife_errands.specs.declared.errands.RunListChange.{RunListChange}
use Rattle.knife_errands.specs.declared.errands.RunListChange.TheVariants.{Add, Remove}
use Rattle.knife_errands.specs.Kinds.{kind_in, is_created, is_deleted, is_filed, has_run_list}

-- KIND show N; KIND create N; KIND delete N
abbrev pub named_errand : Kind → List ℕ → List ℕ → Option Errand
named_errand kind verb name =
    if bytes_eq verb (codes "show") then Some (One (Show (Named kind name)))
    else if bytes_eq verb (codes "create") && is_created kind then Some (One (Create kind name))
    else if bytes_eq verb (codes "delete") && is_deleted kind then Some (One (Delete (Named kind name)))
    else None

-- KIND list, of a listing
abbrev pub listed : List ℕ → Listing → Option Errand
listed verb listing = if bytes_eq verb (codes "list") then Some (One (Lists listing)) else None

-- KIND from file F, of a kind of files
abbrev pub filed : List ℕ → List ℕ → FileKind → List ℕ → Option Errand
filed first second kind path =
    if bytes_eq first (codes "from") && bytes_eq second (codes "file") then Some (FromFile kind path) else None

-- the change that a word names
abbrev pub change_in : List ℕ → Option RunListChange
change_in word =
    if bytes_eq word (codes "add") then Some Add
    else if bytes_eq word (codes "remove") then Some Remove
    else None

-- the change that `run_list add` and `run_list remove` name, of a kind that has run lists
abbrev pub change_of : Kind → List ℕ → List ℕ → Option RunListChange
change_of kind first second = if has_run_list kind && bytes_eq first (codes "run_list") then change_in second else None

-- what words behind the word of a kind spell: KIND list; the rows of one name; KIND from file F; node run_list add N ITEM; node run_list remove N ITEM
abbrev pub kind_errand : Kind → List (List ℕ) → Option Errand
kind_errand kind [] = None
kind_errand kind (verb ∷ []) = listed verb (Of kind)
kind_errand kind (verb ∷ name ∷ []) = named_errand kind verb name
kind_errand kind (first ∷ second ∷ path ∷ []) = if is_filed kind then filed first second (file.Object kind) path else None
kind_errand kind (first ∷ second ∷ name ∷ item ∷ []) = option_map (λ change. RunList name change item) (change_of kind first second)
kind_errand kind (first ∷ second ∷ third ∷ fourth ∷ fifth ∷ words) = None

-- data bag show B; data bag create B; data bag delete B
abbrev pub bag_named : List ℕ → List ℕ → Option Errand
bag_named verb bag =
    if bytes_eq verb (codes "show") then Some (One (Lists (Bag bag)))
    else if bytes_eq verb (codes "create") then Some (One (Create DataBag bag))
    else if bytes_eq verb (codes "delete") then Some (One (Delete (Named DataBag bag)))
    else None

-- data bag show B ID
abbrev pub item_shown : List ℕ → List ℕ → List ℕ → Option Errand
item_shown verb bag id = if bytes_eq verb (codes "show") then Some (One (Show (Item bag id))) else None

-- what words behind `data bag` spell: data bag list; the rows of one bag; data bag show B ID; data bag from file B F
abbrev pub bag_errand : List (List ℕ) → Option Errand
bag_errand [] = None
bag_errand (verb ∷ []) = listed verb (Of DataBag)
bag_errand (verb ∷ bag ∷ []) = bag_named verb bag
bag_errand (verb ∷ bag ∷ id ∷ []) = item_shown verb bag id
bag_errand (first ∷ second ∷ bag ∷ path ∷ []) = filed first second (file.Item bag) path
bag_errand (first ∷ second ∷ third ∷ fourth ∷ fifth ∷ words) = None

-- what words behind `data` spell: those behind `data bag`
abbrev pub data_errand : List (List ℕ) → Option Errand
data_errand [] = None
data_errand (word ∷ words) = if bytes_eq word (codes "bag") then bag_errand words else None

-- what words behind `user` spell: user list
abbrev pub user_errand : List (List ℕ) → Option Errand
user_errand [] = None
user_errand (verb ∷ []) = listed verb Users
user_errand (verb ∷ more ∷ words) = None

-- cookbook show CB VER; cookbook delete CB VER
abbrev pub of_version : List ℕ → Thing → Option Errand
of_version verb thing =
    if bytes_eq verb (codes "show") then Some (One (Show thing))
    else if bytes_eq verb (codes "delete") then Some (One (Delete thing))
    else None

-- what words behind `cookbook` spell: cookbook list; cookbook show CB VER; cookbook delete CB VER
abbrev pub cookbook_errand : List (List ℕ) → Option Errand
cookbook_errand [] = None
cookbook_errand (verb ∷ []) = listed verb Cookbooks
cookbook_errand (verb ∷ name ∷ []) = None
cookbook_errand (verb ∷ name ∷ version ∷ []) = of_version verb (Cookbook name version)
cookbook_errand (verb ∷ name ∷ version ∷ more ∷ words) = None

-- what words behind `search` spell: search INDEX QUERY
abbrev pub search_errand : List (List ℕ) → Option Errand
search_errand [] = None
search_errand (index ∷ []) = None
search_errand (index ∷ query ∷ []) = Some (One (Search index query))
search_errand (index ∷ query ∷ more ∷ words) = None

-- what words behind `raw` spell: raw PATH
abbrev pub raw_errand : List (List ℕ) → Option Errand
raw_errand [] = None
raw_errand (path ∷ []) = Some (One (Raw path))
raw_errand (path ∷ more ∷ words) = None

-- what a first word and the words behind it spell
abbrev pub errand_with : List ℕ → List (List ℕ) → Option Errand
errand_with word words =
    if bytes_eq word (codes "data") then data_errand words
    else if bytes_eq word (codes "user") then user_errand words
    else if bytes_eq word (codes "cookbook") then cookbook_errand words
    else if bytes_eq word (codes "search") then search_errand words
    else if bytes_eq word (codes "raw") then raw_errand words
    else option_and_then (λ kind. kind_errand kind words) (kind_in word)

-- the errand that words spell, if they spell one
abbrev pub errand_in : List (List ℕ) → Option Errand
errand_in [] = None
errand_in (word ∷ words) = errand_with word words
