-- A document beside the data of `serde_json`, of which it is the part without fractions.
use Rattle.std.specs.Prelude.{ℕ, List, [], ◌∷◌, Option, Some, option_map, option_and_then}
use Rattle.serde_json.specs.Data as json
use Rattle.serde_json.specs.Find.{as_integer, of_integer}
use Rattle.doc_tree.specs.Doc.{Doc, null, boolean, whole, words, list, dict, Docs, no_docs, then_doc, Pairs, no_pairs, then_pair, docs_of, pairs_of}

abbrev mutual
  -- the document that data is, where each of its numbers is whole
  pub doc_in : json.Data → Option Doc
  doc_in json.null = Some null
  doc_in (json.boolean b) = Some (boolean b)
  doc_in (json.number n) = option_map whole (as_integer n)
  doc_in (json.string s) = Some (words s)
  doc_in (json.array items) = option_map (λ ds. list (docs_of ds)) (docs_in items)
  doc_in (json.object members) = option_map (λ ps. dict (pairs_of ps)) (pairs_in members)

  -- the documents that the items of an array are
  pub docs_in : json.Items → Option (List Doc)
  docs_in json.no_items = Some []
  docs_in (json.item d items) = option_and_then (λ doc. option_map (λ ds. doc ∷ ds) (docs_in items)) (doc_in d)

  -- the keys of an object, each with the document that its value is
  pub pairs_in : json.Members → Option (List (List ℕ × Doc))
  pairs_in json.no_members = Some []
  pairs_in (json.member k d members) = option_and_then (λ doc. option_map (λ ps. (k, doc) ∷ ps) (pairs_in members)) (doc_in d)

abbrev mutual
  -- the data that a document is
  pub data_of : Doc → json.Data
  data_of null = json.null
  data_of (boolean b) = json.boolean b
  data_of (whole z) = json.number (of_integer z)
  data_of (words s) = json.string s
  data_of (list ds) = json.array (items_of ds)
  data_of (dict ps) = json.object (members_of ps)

  -- the items of a list
  pub items_of : Docs → json.Items
  items_of no_docs = json.no_items
  items_of (then_doc d ds) = json.item (data_of d) (items_of ds)

  -- the members of a dict
  pub members_of : Pairs → json.Members
  members_of no_pairs = json.no_members
  members_of (then_pair k d ps) = json.member k (data_of d) (members_of ps)
