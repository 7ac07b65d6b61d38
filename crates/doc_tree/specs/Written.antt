-- The JSON text of a document (RFC 8259): no space, keys in the order of their bytes, the shortest escapes.
use Rattle.std.specs.Prelude.{ℕ, List, [], ◌++◌, Bool, true, false, codes, if◌then◌else◌}
use Rattle.std.specs.Fmt.{signed_decimal}
use Rattle.json.specs.Print.{quoted}
use Rattle.doc_tree.specs.Doc.{Doc, null, boolean, whole, words, list, dict, Docs, no_docs, then_doc, Pairs, no_pairs, then_pair}

-- a comma, where something stands before
abbrev pub comma_if : Bool → List ℕ
comma_if later = if later then codes "," else []

abbrev mutual
  -- the text of a document
  pub text : Doc → List ℕ
  text null = codes "null"
  text (boolean b) = if b then codes "true" else codes "false"
  text (whole z) = signed_decimal z
  text (words s) = quoted s
  text (list ds) = codes "[" ++ docs_text false ds
  text (dict ps) = codes "{" ++ pairs_text false ps

  -- the texts of these documents, with commas between, and the bracket that closes the list
  pub docs_text : Bool → Docs → List ℕ
  docs_text later no_docs = codes "]"
  docs_text later (then_doc d ds) = comma_if later ++ (text d ++ docs_text true ds)

  -- each key with the text of its document, with commas between, and the brace that closes the dict
  pub pairs_text : Bool → Pairs → List ℕ
  pairs_text later no_pairs = codes "}"
  pairs_text later (then_pair k d ps) = comma_if later ++ (quoted k ++ (codes ":" ++ (text d ++ pairs_text true ps)))
