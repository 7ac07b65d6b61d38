-- What stored items and run lists are read as, and that the visit of a run list has one outcome.
use Rattle.std.specs.Prelude.{◌≡◌, ℕ, List, Some}
use Rattle.doc_tree.specs.Doc.{Doc}
use Rattle.run_lists.specs.ByName.{named_run_lists}
use Rattle.run_lists.specs.Items.{reads_item, stored_text}
use Rattle.run_lists.specs.Reading.{run_list_of}
use Rattle.run_lists.specs.Stored.{Stored}
use Rattle.run_lists.specs.Storing.{by_name_doc, run_list_doc}
use Rattle.run_lists.specs.Visits.{Event, Visits}
use Rattle.run_lists.specs.declared.by_name.NamedRunList.{NamedRunList}
use Rattle.run_lists.specs.declared.reading.Allowed.TheVariants.{Items}
use Rattle.run_lists.specs.declared.roles.RunLists.{RunLists}

-- the stored text names what the text that was sent names, and is stored as it is
pub record StoredReadsBack (text : List ℕ) : Type 0 where
  pub named : reads_item (stored_text text) ≡ reads_item text
  pub stored : stored_text (stored_text text) ≡ stored_text text

-- what is stored of the run list that a document is, is read as that run list
abbrev pub RunListReadsBack : Doc → List Stored → Type 0
RunListReadsBack d items = run_list_of d ≡ Some items → run_list_of (run_list_doc items) ≡ Some items

-- what is stored of the run lists that a document has under names is read as these
abbrev pub NamedListsReadBack : Doc → List NamedRunList → Type 0
NamedListsReadBack d lists = named_run_lists Items d ≡ Some lists → named_run_lists Items (by_name_doc lists) ≡ Some lists

-- two lists of events of one visit are one list
abbrev pub OneVisit : List (List ℕ × RunLists) → List ℕ → List Stored → Type 0
OneVisit roles env items = (events others : List Event) → Visits roles env items events → Visits roles env items others → events ≡ others
