-- The forms of fields: which documents have a form, and what is stored of one that has.
use Rattle.std.specs.Prelude.{ℕ, Bool, true, false, cond, not, ◌&&◌, List, Option, Some, None, option_map, bytes_eq, codes, is_ok}
use Rattle.doc_tree.specs.Doc.{Doc, null, boolean, whole, words, list, dict, Pairs, no_pairs, then_pair}
use Rattle.doc_tree.specs.Name.{is_name}
use Rattle.run_lists.specs.ByName.{named_run_lists}
use Rattle.run_lists.specs.Reading.{run_list_of}
use Rattle.run_lists.specs.Storing.{by_name_doc, run_list_doc}
use Rattle.run_lists.specs.declared.reading.Allowed.TheVariants.{Items}
use Rattle.version_rules.specs.Constraints.{reads_constraint}

-- a Name, the id of an item, any text, exactly this text, a truth value, a Dict, a list of items, a Dict from Names to
-- lists of items, or a Dict from Names to constraints
pub data Form : Type 0 where
  a_name : Form
  an_id : Form
  a_text : Form
  exactly : List ℕ → Form
  a_truth : Form
  a_dict : Form
  items : Form
  items_by_name : Form
  constraints_by_name : Form

-- the id of an item: a Name other than `_acl`
abbrev pub is_id : List ℕ → Bool
is_id text = is_name text && not (bytes_eq text (codes "_acl"))

-- the text spells a constraint on versions
abbrev pub is_constraint : List ℕ → Bool
is_constraint text = is_ok (reads_constraint text)

-- the Name that a document is, if it is one
abbrev pub name_from : Doc → Option (List ℕ)
name_from null = None
name_from (boolean b) = None
name_from (whole z) = None
name_from (words text) = cond (is_name text) (Some text) None
name_from (list ds) = None
name_from (dict ps) = None

-- the document is a text that the test takes
abbrev pub is_text : (List ℕ → Bool) → Doc → Bool
is_text test null = false
is_text test (boolean b) = false
is_text test (whole z) = false
is_text test (words text) = test text
is_text test (list ds) = false
is_text test (dict ps) = false

-- the document is a truth value
abbrev pub is_truth : Doc → Bool
is_truth null = false
is_truth (boolean b) = true
is_truth (whole z) = false
is_truth (words text) = false
is_truth (list ds) = false
is_truth (dict ps) = false

-- each key is a Name, and each document the text of a constraint
abbrev pub are_constraints : Pairs → Bool
are_constraints no_pairs = true
are_constraints (then_pair key d ps) = is_name key && is_text is_constraint d && are_constraints ps

-- the document is a Dict whose pairs the test takes
abbrev pub is_dict : (Pairs → Bool) → Doc → Bool
is_dict test null = false
is_dict test (boolean b) = false
is_dict test (whole z) = false
is_dict test (words text) = false
is_dict test (list ds) = false
is_dict test (dict ps) = test ps

-- a run list as it is stored, if the document is a list of items
abbrev pub stored_run_list : Doc → Option Doc
stored_run_list d = option_map run_list_doc (run_list_of d)

-- a Dict from Names to run lists as it is stored
abbrev pub stored_by_name : Doc → Option Doc
stored_by_name d = option_map by_name_doc (named_run_lists Items d)

-- the document as it was sent, if the test takes it
abbrev pub kept : (Doc → Bool) → Doc → Option Doc
kept test d = cond (test d) (Some d) None

-- what is stored of a document that has the form, and None where it hasn't
abbrev pub stored : Form → Doc → Option Doc
stored a_name d = kept (is_text is_name) d
stored an_id d = kept (is_text is_id) d
stored a_text d = kept (is_text (λ text. true)) d
stored (exactly this) d = kept (is_text (bytes_eq this)) d
stored a_truth d = kept is_truth d
stored a_dict d = kept (is_dict (λ ps. true)) d
stored items d = stored_run_list d
stored items_by_name d = stored_by_name d
stored constraints_by_name d = kept (is_dict are_constraints) d
