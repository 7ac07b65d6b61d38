-- Changes of a node's run list.
use Rattle.std.specs.Prelude.{ℕ, List, [], ◌∷◌, ◌++◌, map, filter, not, Option, option_map, option_and_then, codes, bytes_eq, is_ok, if◌then◌else◌}
use Rattle.std.specs.List.{list_any}
use Rattle.doc_tree.specs.Doc.{Doc, null, boolean, whole, words, list, dict, docs_of, pairs_of, pairs_list}
use Rattle.doc_tree.specs.Part.{part_at, with_pair}
use Rattle.run_lists.specs.Items.{reads_item, stored_text}
use Rattle.run_lists.specs.Reading.{run_list_of}
use Rattle.run_lists.specs.Stored.{Stored}
use Rattle.peer_wire.specs.declared.asks.Ask.{Ask}
use Rattle.peer_wire.specs.declared.asks.Verb.TheVariants.{Get, Put}
use Rattle.peer_wire.specs.declared.asks.Whom.{Whom}
use Rattle.knife_errands.specs.declared.errands.Kind.TheVariants.{Node}
use Rattle.knife_errands.specs.declared.errands.RunListChange.{RunListChange}
use Rattle.knife_errands.specs.declared.errands.RunListChange.TheVariants.{Add, Remove}
use Rattle.knife_errands.specs.declared.errands.Thing.TheVariants.{Named}
use Rattle.knife_errands.specs.Bodies.{document_in}
use Rattle.knife_errands.specs.Printing.{lines}
use Rattle.knife_errands.specs.Requests.{bare, sends}
use Rattle.knife_errands.specs.Targets.{target, place_of}

-- a node's target
abbrev pub node_target : Whom → List ℕ → List ℕ
node_target whom node = target whom (place_of (Named Node node))

-- the GET of a node
abbrev pub node_request : List ℕ → Whom → Ask
node_request node whom = bare Get (node_target whom node)

-- the texts of items as they are stored
abbrev pub texts_of : List Stored → List (List ℕ)
texts_of items = map (λ (item : Stored). item.text) items

-- the items of the run list that a node's document has, as they are stored
abbrev pub items_in : Doc → Option (List (List ℕ))
items_in d = option_map texts_of (option_and_then run_list_of (part_at (codes "run_list") d))

-- an item as it is stored; any other text as it is
abbrev pub item_text : List ℕ → List ℕ
item_text item = if is_ok (reads_item item) then stored_text item else item

-- the items with this one last where it is new
abbrev pub added : List ℕ → List (List ℕ) → List (List ℕ)
added item items = if list_any (bytes_eq item) items then items else items ++ item ∷ []

-- the items without this one
abbrev pub without : List ℕ → List (List ℕ) → List (List ℕ)
without item items = filter (λ other. not (bytes_eq item other)) items

-- the items as a change by this one leaves them
abbrev pub changed : RunListChange → List ℕ → List (List ℕ) → List (List ℕ)
changed Add item items = added item items
changed Remove item items = without item items

-- the document with these items as its run list
abbrev pub with_items : List (List ℕ) → Doc → Doc
with_items items null = null
with_items items (boolean b) = boolean b
with_items items (whole z) = whole z
with_items items (words s) = words s
with_items items (list ds) = list ds
with_items items (dict ps) = dict (pairs_of (with_pair (codes "run_list") (list (docs_of (map words items))) (pairs_list ps)))

-- the node's document with its run list changed, where it has one
abbrev pub changed_node : RunListChange → List ℕ → Doc → Option Doc
changed_node change item d = option_map (λ items. with_items (changed change (item_text item) items) d) (items_in d)

-- the PUT of a node whose run list was changed, by the body that the GET gave
abbrev pub changed_request : List ℕ → RunListChange → List ℕ → Whom → List ℕ → Option Ask
changed_request node change item whom body =
    option_map (sends Put (node_target whom node)) (option_and_then (changed_node change item) (document_in body))

-- the items of the node that a body is, a line each
abbrev pub printed_items : List ℕ → Option (List ℕ)
printed_items body = option_map lines (option_and_then items_in (document_in body))
