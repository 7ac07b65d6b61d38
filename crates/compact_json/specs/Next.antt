-- What is next in the tokens of a document's text, for the private clauses of reading.
use Rattle.std.specs.Prelude.{◌≡◌, List, ◌++◌, Bool, true, false}
use Rattle.json.specs.Token.{Token, begin_object, end_object, begin_array, end_array, key, string, number, boolean, null, bad}
use Rattle.doc_tree.specs.Doc.{dict, Docs, Pairs}
use Rattle.doc_tree.specs.Tokens.{doc_tokens, docs_tokens, pairs_tokens}
use Rattle.doc_tree.specs.Valid.{IsDoc, AreDocs}
use Rattle.compact_json.specs.Compact.{first_doc}

-- a document that a tree can be is next
abbrev pub AtDoc : List Token → Type 0
AtDoc ts = IsDoc (first_doc ts) × ((rest : List Token) × (ts ≡ doc_tokens (first_doc ts) ++ rest))

-- documents that trees can be are next, with the bracket that closes their list
abbrev pub AtDocs : List Token → Type 0
AtDocs ts = (ds : Docs) × AreDocs ds × ((rest : List Token) × (ts ≡ docs_tokens ds ++ rest))

-- these pairs are next, with the brace that closes their dict
abbrev pub PairsAt : Pairs → List Token → Type 0
PairsAt ps ts = (rest : List Token) × (ts ≡ pairs_tokens ps ++ rest)

-- pairs are next
abbrev pub AtPairs : List Token → Type 0
AtPairs ts = (ps : Pairs) × PairsAt ps ts

-- the pairs of a dict that a tree can be are next
abbrev pub AtDict : List Token → Type 0
AtDict ts = (ps : Pairs) × IsDoc (dict ps) × PairsAt ps ts

-- a value may begin with the token
abbrev pub begins_value : Token → Bool
begins_value begin_object = true
begins_value end_object = false
begins_value begin_array = true
begins_value end_array = false
begins_value (key s) = false
begins_value (string s) = true
begins_value (number s) = true
begins_value (boolean b) = true
begins_value null = true
begins_value bad = false

-- an object begins with the token
abbrev pub begins_object : Token → Bool
begins_object begin_object = true
begins_object end_object = false
begins_object begin_array = false
begins_object end_array = false
begins_object (key s) = false
begins_object (string s) = false
begins_object (number s) = false
begins_object (boolean b) = false
begins_object null = false
begins_object bad = false
