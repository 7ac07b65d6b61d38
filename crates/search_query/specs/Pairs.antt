-- The pairs by which an object is found.
use Rattle.std.specs.Prelude.{ℕ, Bool, true, false, ◌||◌, bytes_eq, if◌then◌else◌, List, [], ◌∷◌, ◌++◌, codes, Option, Some, None, nat_eq, length, take, drop, ◌-◌}
use Rattle.std.specs.Fmt.{signed_decimal}
use Rattle.std.specs.List.{starts_with, ends_with}
use Rattle.doc_tree.specs.Doc.{Doc, null, boolean, whole, words, list, dict, Docs, no_docs, then_doc, Pairs, no_pairs, then_pair}
use Rattle.doc_tree.specs.declared.kind.Kind.{Kind}
use Rattle.doc_tree.specs.declared.kind.Kind.TheVariants.{Org, Node, Role, Environment, Bag, Client, User, Group, Container, Item, Cookbook, Artifact, Policy, PolicyGroup, Acl, Sandbox, File}
use Rattle.search_query.specs.Pair.{Pair, pair}
use Rattle.search_query.specs.declared.flatten.Way.{Way}
use Rattle.search_query.specs.declared.flatten.Way.TheVariants.{Top, At}

-- the way to what stands at a key: the keys along it, joined by `_`, and the last of them
abbrev pub onto : Way → List ℕ → Way
onto Top key = At key key
onto (At path last) key = At (path ++ (codes "_" ++ key)) key

-- a value is found by the keys along its way and by the last of them, and at no key it isn't found
abbrev pub found_by : Way → List ℕ → List Pair
found_by Top value = []
found_by (At path last) value = pair path value ∷ pair last value ∷ []

abbrev mutual
  -- what is found of a document: words as they are, whole numbers in decimal, truth values, of a list each element, and of a dict what stands at each key; null isn't found
  pub pairs_at : Way → Doc → List Pair
  pairs_at way null = []
  pairs_at way (boolean b) = found_by way (if b then codes "true" else codes "false")
  pairs_at way (whole z) = found_by way (signed_decimal z)
  pairs_at way (words s) = found_by way s
  pairs_at way (list ds) = pairs_of_each way ds
  pairs_at way (dict ps) = pairs_below way ps

  pub pairs_of_each : Way → Docs → List Pair
  pairs_of_each way no_docs = []
  pairs_of_each way (then_doc d ds) = pairs_at way d ++ pairs_of_each way ds

  pub pairs_below : Way → Pairs → List Pair
  pairs_below way no_pairs = []
  pairs_below way (then_pair key d ps) = pairs_at (onto way key) d ++ pairs_below way ps

-- one of the four levels of a node's attributes
abbrev pub is_level : List ℕ → Bool
is_level key = bytes_eq key (codes "automatic") || (bytes_eq key (codes "normal") || (bytes_eq key (codes "default") || bytes_eq key (codes "override")))

-- the way to what stands at a key of a node: a level isn't counted
abbrev pub node_way : List ℕ → Way
node_way key = if is_level key then Top else onto Top key

-- what stands behind a front, where the text begins with it
abbrev pub behind_front : List ℕ → List ℕ → Option (List ℕ)
behind_front front text = if starts_with nat_eq text front then Some (drop (length front) text) else None

-- what stands before the last byte, where that is `]`
abbrev pub before_bracket : List ℕ → Option (List ℕ)
before_bracket text = if ends_with nat_eq text (codes "]") then Some (take (length text - 1) text) else None

-- the field with what stands between the brackets
abbrev pub named : List ℕ → Option (List ℕ) → List Pair
named field None = []
named field (Some name) = pair field name ∷ []

abbrev pub in_brackets : List ℕ → Option (List ℕ) → List Pair
in_brackets field None = []
in_brackets field (Some rest) = named field (before_bracket rest)

-- an item `recipe[x]` of a run list gives the recipe x, and an item `role[x]` the role x
abbrev pub item_pairs : List ℕ → List Pair
item_pairs text = in_brackets (codes "recipe") (behind_front (codes "recipe[") text) ++ in_brackets (codes "role") (behind_front (codes "role[") text)

-- the texts of a list that are such items
abbrev pub word_pairs : Doc → List Pair
word_pairs (words s) = item_pairs s
word_pairs null = []
word_pairs (boolean b) = []
word_pairs (whole z) = []
word_pairs (list ds) = []
word_pairs (dict ps) = []

abbrev pub items_pairs : Docs → List Pair
items_pairs no_docs = []
items_pairs (then_doc d ds) = word_pairs d ++ items_pairs ds

-- what a run list gives
abbrev pub run_list_pairs : Doc → List Pair
run_list_pairs (list ds) = items_pairs ds
run_list_pairs null = []
run_list_pairs (boolean b) = []
run_list_pairs (whole z) = []
run_list_pairs (words s) = []
run_list_pairs (dict ps) = []

-- what is found of a key of a node
abbrev pub key_pairs : List ℕ → Doc → List Pair
key_pairs key d = pairs_at (node_way key) d ++ (if bytes_eq key (codes "run_list") then run_list_pairs d else [])

abbrev pub node_fields : Pairs → List Pair
node_fields no_pairs = []
node_fields (then_pair key d ps) = key_pairs key d ++ node_fields ps

-- what is found of a node
abbrev pub node_pairs : Doc → List Pair
node_pairs (dict ps) = node_fields ps
node_pairs null = []
node_pairs (boolean b) = []
node_pairs (whole z) = []
node_pairs (words s) = []
node_pairs (list ds) = []

-- the object is a node
abbrev pub is_node : Kind → Bool
is_node Org = false
is_node Node = true
is_node Role = false
is_node Environment = false
is_node Bag = false
is_node Client = false
is_node User = false
is_node Group = false
is_node Container = false
is_node Item = false
is_node Cookbook = false
is_node Artifact = false
is_node Policy = false
is_node PolicyGroup = false
is_node Acl = false
is_node Sandbox = false
is_node File = false

-- the pairs of an object, in whatever order and with repeats
abbrev pub pairs_of : Kind → Doc → List Pair
pairs_of kind d = if is_node kind then node_pairs d else pairs_at Top d
