-- What is stored of a field is stored as it is.
use Rattle.std.proofs.Common.{◌≡◌, Bool, true, false, cond, IsTrue, Some, None, option_map, bytes_eq, refl, ap, subst}
use Rattle.std.proofs.lemmas.Option.{same_Some}
use Rattle.doc_tree.specs.Doc.{Doc}
use Rattle.doc_tree.specs.Name.{is_name}
use Rattle.run_lists.specs.ByName.{named_run_lists}
use Rattle.run_lists.specs.Reading.{run_list_of}
use Rattle.run_lists.specs.Storing.{by_name_doc, run_list_doc}
use Rattle.run_lists.specs.declared.reading.Allowed.TheVariants.{Items}
use Rattle.run_lists.proofs.AgainLemmas.{lists_again, run_list_again}
use Rattle.run_lists.proofs.EachLemmas.{map_found}
use Rattle.object_forms.specs.Forms.{Form, a_name, an_id, a_text, exactly, a_truth, a_dict, items, items_by_name, constraints_by_name, stored, kept, is_text, is_id, is_truth, is_dict, are_constraints, stored_run_list, stored_by_name}

-- what a test takes is as it was sent
pub kept_test : (b : Bool) (d e : Doc) → cond b (Some d) None ≡ Some e → IsTrue b × (d ≡ e)
kept_test true d e is = (refl, same_Some d e is)
kept_test false d e is = cc

settled-kept : (test : Doc → Bool) (d e : Doc) → kept test d ≡ Some e → kept test e ≡ Some e
settled-kept test d e is =
    let same = (kept_test (test d) d e is).1 in
    subst (λ (f : Doc). kept test f ≡ Some e) same is

-- ---- run lists

settled-run_list : (d e : Doc) → stored_run_list d ≡ Some e → stored_run_list e ≡ Some e
settled-run_list d e is =
    let read = map_found (run_list_of d) run_list_doc e is in
    subst (λ (f : Doc). stored_run_list f ≡ Some f) read.2 (ap (option_map run_list_doc) (run_list_again d read.0 read.1))

settled-by_name : (d e : Doc) → stored_by_name d ≡ Some e → stored_by_name e ≡ Some e
settled-by_name d e is =
    let read = map_found (named_run_lists Items d) by_name_doc e is in
    subst (λ (f : Doc). stored_by_name f ≡ Some f) read.2 (ap (option_map by_name_doc) (lists_again d read.0 read.1))

-- ---- each form

pub settled : (form : Form) (d e : Doc) → stored form d ≡ Some e → stored form e ≡ Some e
settled a_name d e is = settled-kept (is_text is_name) d e is
settled an_id d e is = settled-kept (is_text is_id) d e is
settled a_text d e is = settled-kept (is_text (λ text. true)) d e is
settled (exactly this) d e is = settled-kept (is_text (bytes_eq this)) d e is
settled a_truth d e is = settled-kept is_truth d e is
settled a_dict d e is = settled-kept (is_dict (λ ps. true)) d e is
settled items d e is = settled-run_list d e is
settled items_by_name d e is = settled-by_name d e is
settled constraints_by_name d e is = settled-kept (is_dict are_constraints) d e is
