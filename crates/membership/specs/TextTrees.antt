-- Texts in documents: lists of nothing but texts.
use Rattle.std.specs.Prelude.{ℕ, Bool, true, false, List, [], ◌∷◌, map, Option, Some, None, if◌then◌else◌}
use Rattle.doc_tree.specs.Doc.{Doc, null, boolean, whole, words, list, dict, Docs, no_docs, then_doc, docs_of}

-- the document is a text
abbrev pub is_text : Doc → Bool
is_text null = false
is_text (boolean b) = false
is_text (whole z) = false
is_text (words s) = true
is_text (list ds) = false
is_text (dict ps) = false

-- these documents are texts
abbrev pub are_texts : Docs → Bool
are_texts no_docs = true
are_texts (then_doc d ds) = if is_text d then are_texts ds else false

-- a text before others
abbrev pub text_before : Doc → List (List ℕ) → List (List ℕ)
text_before null rest = rest
text_before (boolean b) rest = rest
text_before (whole z) rest = rest
text_before (words s) rest = s ∷ rest
text_before (list ds) rest = rest
text_before (dict ps) rest = rest

-- the texts among these documents
abbrev pub texts_among : Docs → List (List ℕ)
texts_among no_docs = []
texts_among (then_doc d ds) = text_before d (texts_among ds)

-- the texts of a list of nothing but texts
abbrev pub texts_in : Doc → Option (List (List ℕ))
texts_in null = None
texts_in (boolean b) = None
texts_in (whole z) = None
texts_in (words s) = None
texts_in (list ds) = if are_texts ds then Some (texts_among ds) else None
texts_in (dict ps) = None

-- the list of these texts
abbrev pub texts_doc : List (List ℕ) → Doc
texts_doc texts = list (docs_of (map words texts))
