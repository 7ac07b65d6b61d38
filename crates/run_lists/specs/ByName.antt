-- The run lists that documents have under names.
use Rattle.std.specs.Prelude.{ℕ, Bool, if◌then◌else◌, List, map, Option, Some, None, option_map, option_and_then}
use Rattle.doc_tree.specs.Doc.{Doc, dict, pairs_list}
use Rattle.doc_tree.specs.Name.{is_name}
use Rattle.doc_tree.specs.Valid.{InOrder}
use Rattle.run_lists.specs.Reading.{each_of, items_read}
use Rattle.run_lists.specs.declared.by_name.NamedRunList.{NamedRunList}
use Rattle.run_lists.specs.declared.reading.Allowed.{Allowed}

-- the text, if it passes the test
abbrev pub kept_if : (List ℕ → Bool) → List ℕ → Option (List ℕ)
kept_if test text = if test text then Some text else None

-- the keys of a Dict, each with its document
abbrev pub dict_of : Doc → Option (List (List ℕ × Doc))
dict_of (dict ps) = Some (pairs_list ps)
dict_of d = None

-- a run list under its Name
abbrev pub named_run_list : Allowed → List ℕ × Doc → Option NamedRunList
named_run_list allowed pair =
    option_and_then (λ name. option_map (λ items. record { name = name; run_list = items }) (items_read allowed pair.1)) (kept_if is_name pair.0)

-- the run lists under their Names that a document is: a Dict of run lists
abbrev pub named_run_lists : Allowed → Doc → Option (List NamedRunList)
named_run_lists allowed d = option_and_then (each_of (named_run_list allowed)) (dict_of d)

-- the run lists stand in the byte order of their names, each name once
abbrev pub AreInOrder : List NamedRunList → Type 0
AreInOrder lists = InOrder (map (λ (named : NamedRunList). named.name) lists)
