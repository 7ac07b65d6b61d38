-- A document and the data that it is: each comes back from the other, with the same depth and text.
use Rattle.std.proofs.Common.{◌≡◌, suc, max, ◌∷◌, ◌++◌, Bool, true, false, ℤ, pos, negsuc, Some, option_map, refl, ap, ap₂, ◌∙◌}
use Rattle.json.specs.Print.{quoted}
use Rattle.serde_json.specs.Data as json
use Rattle.serde_json.specs.Find.{as_integer, of_integer}
use Rattle.serde_json.specs.Written.{compact_text, items_text, members_text, comma_if as comma}
use Rattle.doc_tree.specs.Data.{doc_in, docs_in, pairs_in, data_of, items_of, members_of}
use Rattle.doc_tree.specs.Doc.{Doc, null, boolean, whole, words, list, dict, Docs, no_docs, then_doc, Pairs, no_pairs, then_pair, docs_list, pairs_list, docs_of, pairs_of, depth, docs_depth, pairs_depth}
use Rattle.doc_tree.specs.Written.{text, docs_text, pairs_text, comma_if}
use Rattle.doc_tree.proofs.Docs.{docs_of-docs_list, pairs_of-pairs_list}

as_integer-of_integer : (z : ℤ) → as_integer (of_integer z) ≡ Some z
as_integer-of_integer (pos n) = refl
as_integer-of_integer (negsuc n) = refl

mutual
  pub doc_in-data_of : (d : Doc) → doc_in (data_of d) ≡ Some d
  doc_in-data_of null = refl
  doc_in-data_of (boolean b) = refl
  doc_in-data_of (whole z) = ap (option_map whole) (as_integer-of_integer z)
  doc_in-data_of (words s) = refl
  doc_in-data_of (list ds) = ap (option_map (λ l. list (docs_of l))) (docs_in-items_of ds) ∙ ap (λ l. Some (list l)) (docs_of-docs_list ds)
  doc_in-data_of (dict ps) = ap (option_map (λ l. dict (pairs_of l))) (pairs_in-members_of ps) ∙ ap (λ l. Some (dict l)) (pairs_of-pairs_list ps)

  docs_in-items_of : (ds : Docs) → docs_in (items_of ds) ≡ Some (docs_list ds)
  docs_in-items_of no_docs = refl
  docs_in-items_of (then_doc d ds) = rw (doc_in-data_of d, docs_in-items_of ds)

  pairs_in-members_of : (ps : Pairs) → pairs_in (members_of ps) ≡ Some (pairs_list ps)
  pairs_in-members_of no_pairs = refl
  pairs_in-members_of (then_pair k d ps) = rw (doc_in-data_of d, pairs_in-members_of ps)

mutual
  pub depth-data_of : (d : Doc) → json.depth (data_of d) ≡ depth d
  depth-data_of null = refl
  depth-data_of (boolean b) = refl
  depth-data_of (whole z) = refl
  depth-data_of (words s) = refl
  depth-data_of (list ds) = ap suc (items_depth-items_of ds)
  depth-data_of (dict ps) = ap suc (members_depth-members_of ps)

  items_depth-items_of : (ds : Docs) → json.items_depth (items_of ds) ≡ docs_depth ds
  items_depth-items_of no_docs = refl
  items_depth-items_of (then_doc d ds) = ap₂ max (depth-data_of d) (items_depth-items_of ds)

  members_depth-members_of : (ps : Pairs) → json.members_depth (members_of ps) ≡ pairs_depth ps
  members_depth-members_of no_pairs = refl
  members_depth-members_of (then_pair k d ps) = ap₂ max (depth-data_of d) (members_depth-members_of ps)

comma-comma_if : (later : Bool) → comma later ≡ comma_if later
comma-comma_if true = refl
comma-comma_if false = refl

mutual
  pub compact_text-data_of : (d : Doc) → compact_text (data_of d) ≡ text d
  compact_text-data_of null = refl
  compact_text-data_of (boolean true) = refl
  compact_text-data_of (boolean false) = refl
  compact_text-data_of (whole (pos n)) = refl
  compact_text-data_of (whole (negsuc n)) = refl
  compact_text-data_of (words s) = refl
  compact_text-data_of (list ds) = ap (λ s. 91 ∷ s) (items_text-items_of false ds)
  compact_text-data_of (dict ps) = ap (λ s. 123 ∷ s) (members_text-members_of false ps)

  items_text-items_of : (later : Bool) (ds : Docs) → items_text later (items_of ds) ≡ docs_text later ds
  items_text-items_of later no_docs = refl
  items_text-items_of later (then_doc d ds) = ap₂ (λ a b. a ++ b) (comma-comma_if later) (ap₂ (λ a b. a ++ b) (compact_text-data_of d) (items_text-items_of true ds))

  members_text-members_of : (later : Bool) (ps : Pairs) → members_text later (members_of ps) ≡ pairs_text later ps
  members_text-members_of later no_pairs = refl
  members_text-members_of later (then_pair k d ps) =
      ap₂ (λ a b. a ++ b) (comma-comma_if later) (ap₂ (λ a b. quoted k ++ 58 ∷ (a ++ b)) (compact_text-data_of d) (members_text-members_of true ps))
