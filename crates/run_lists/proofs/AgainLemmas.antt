-- What is stored of run lists is read as themselves.
use Rattle.std.proofs.Common.{◌≡◌, ℕ, true, List, map, Some, option_and_then, option_map, Result, Ok, Err, refl, ap, subst, ◌∙◌}
use Rattle.doc_tree.proofs.Docs.{docs_list-docs_of, pairs_list-pairs_of}
use Rattle.doc_tree.specs.Doc.{Doc, null, boolean, whole, words, list, dict, docs_list}
use Rattle.doc_tree.specs.Name.{is_name}
use Rattle.run_lists.specs.ByName.{dict_of, kept_if, named_run_list, named_run_lists}
use Rattle.run_lists.specs.Items.{reads_item, stored_text}
use Rattle.run_lists.specs.Reading.{each_of, item_named, item_of, run_list_of}
use Rattle.run_lists.specs.Stored.{Stored}
use Rattle.run_lists.specs.Storing.{by_name_doc, named_pair, run_list_doc}
use Rattle.run_lists.specs.declared.by_name.NamedRunList.{NamedRunList}
use Rattle.run_lists.specs.declared.item_fault.ItemFault.{ItemFault}
use Rattle.run_lists.specs.declared.names.Named.{Named}
use Rattle.run_lists.specs.declared.reading.Allowed.TheVariants.{Items}
use Rattle.run_lists.proofs.EachLemmas.{each_again, keeps_again, kept_found, map_found, same_some, then_found}
use Rattle.run_lists.proofs.StoredLemmas.{stored_reads_back}

-- ---- one run list

abbrev item_words : Stored → Doc
item_words item = words item.text

item_by : (text : List ℕ) (r : Result Named ItemFault) (item : Stored) → reads_item text ≡ r → item_named text r ≡ Some item → item_of (item_words item) ≡ Some item
item_by text (Ok named) item reads is =
    let same : record { text = stored_text text; named = named } ≡ item = same_some (record { text = stored_text text; named = named }) item is in
    subst (λ (i : Stored). item_of (item_words i) ≡ Some i) same
    (ap (item_named (stored_text text)) ((stored_reads_back text).named ∙ reads) ∙ ap (λ t. Some (record { text = t; named = named })) (stored_reads_back text).stored)
item_by text (Err fault) item reads is = cc

item_again : (d : Doc) (item : Stored) → item_of d ≡ Some item → item_of (item_words item) ≡ Some item
item_again null item is = cc
item_again (boolean b) item is = cc
item_again (whole z) item is = cc
item_again (words text) item is = item_by text (reads_item text) item refl is
item_again (list ds) item is = cc
item_again (dict ps) item is = cc

pub run_list_again : (d : Doc) (items : List Stored) → run_list_of d ≡ Some items → run_list_of (run_list_doc items) ≡ Some items
run_list_again null items is = cc
run_list_again (boolean b) items is = cc
run_list_again (whole z) items is = cc
run_list_again (words text) items is = cc
run_list_again (list ds) items is =
    ap (each_of item_of) (docs_list-docs_of (map item_words items)) ∙ each_again item_of item_of item_words item_again (docs_list ds) items is
run_list_again (dict ps) items is = cc

-- ---- run lists under their names

-- the name and the items of a run list that was read
record IsNamed (pair : List ℕ × Doc) (named : NamedRunList) : Type 0 where
  items : List Stored
  is_its_name : is_name pair.0 ≡ true
  items_are : run_list_of pair.1 ≡ Some items
  all : record { name = pair.0; run_list = items } ≡ named

named_is : (pair : List ℕ × Doc) (named : NamedRunList) → named_run_list Items pair ≡ Some named → IsNamed pair named
named_is pair named is =
    let name = then_found (kept_if is_name pair.0) (λ name. option_map (λ items. record { name = name; run_list = items }) (run_list_of pair.1)) named is in
    let items = map_found (run_list_of pair.1) (λ items. record { name = name.0; run_list = items }) named name.2 in
    let kept = kept_found is_name pair.0 name.0 name.1 in
    record { items = items.0; is_its_name = kept.0; items_are = items.1; all = ap (λ n. record { name = n; run_list = items.0 }) kept.1 ∙ items.2 }

named_again : (pair : List ℕ × Doc) (named : NamedRunList) → named_run_list Items pair ≡ Some named → named_run_list Items (named_pair named) ≡ Some named
named_again pair named is =
    let read = named_is pair named is in
    subst (λ (n : NamedRunList). named_run_list Items (named_pair n) ≡ Some n) read.all
    (ap (option_and_then (λ name. option_map (λ items. record { name = name; run_list = items }) (run_list_of (run_list_doc read.items)))) (keeps_again is_name pair.0 read.is_its_name)
    ∙ ap (option_map (λ items. record { name = pair.0; run_list = items })) (run_list_again pair.1 read.items read.items_are))

pub lists_again : (d : Doc) (lists : List NamedRunList) → named_run_lists Items d ≡ Some lists → named_run_lists Items (by_name_doc lists) ≡ Some lists
lists_again d lists is =
    let read = then_found (dict_of d) (each_of (named_run_list Items)) lists is in
    ap (each_of (named_run_list Items)) (pairs_list-pairs_of (map named_pair lists))
    ∙ each_again (named_run_list Items) (named_run_list Items) named_pair named_again read.0 lists read.2
