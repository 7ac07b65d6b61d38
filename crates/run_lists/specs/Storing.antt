-- Run lists as they are stored.
use Rattle.std.specs.Prelude.{ℕ, List, map}
use Rattle.doc_tree.specs.Doc.{Doc, words, list, dict, docs_of, pairs_of}
use Rattle.run_lists.specs.Stored.{Stored}
use Rattle.run_lists.specs.declared.by_name.NamedRunList.{NamedRunList}

-- a run list as it is stored
abbrev pub run_list_doc : List Stored → Doc
run_list_doc items = list (docs_of (map (λ (item : Stored). words item.text) items))

-- a run list under its name, as it is stored
abbrev pub named_pair : NamedRunList → List ℕ × Doc
named_pair named = (named.name, run_list_doc named.run_list)

-- run lists under their names, in their order, as they are stored
abbrev pub by_name_doc : List NamedRunList → Doc
by_name_doc lists = dict (pairs_of (map named_pair lists))
