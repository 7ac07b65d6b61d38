-- A document: the value that a JSON text stands for (RFC 8259), where each number is whole and each key comes once.
use Rattle.std.specs.Prelude.{ℕ, suc, max, ℤ, List, [], ◌∷◌, Bool}

mutual
  -- a document
  pub data Doc : Type 0 where
    null : Doc
    boolean : Bool → Doc
    whole : ℤ → Doc
    words : List ℕ → Doc
    list : Docs → Doc
    dict : Pairs → Doc

  -- the documents of a list
  pub data Docs : Type 0 where
    no_docs : Docs
    then_doc : Doc → Docs → Docs

  -- the keys of a dict, each with its document
  pub data Pairs : Type 0 where
    no_pairs : Pairs
    then_pair : List ℕ → Doc → Pairs → Pairs

-- these documents, in a list
abbrev pub docs_of : List Doc → Docs
docs_of [] = no_docs
docs_of (d ∷ ds) = then_doc d (docs_of ds)

-- the documents of a list, one by one
abbrev pub docs_list : Docs → List Doc
docs_list no_docs = []
docs_list (then_doc d ds) = d ∷ docs_list ds

-- these keys and documents, in a dict
abbrev pub pairs_of : List (List ℕ × Doc) → Pairs
pairs_of [] = no_pairs
pairs_of (p ∷ ps) = then_pair p.0 p.1 (pairs_of ps)

-- the keys and documents of a dict, one by one
abbrev pub pairs_list : Pairs → List (List ℕ × Doc)
pairs_list no_pairs = []
pairs_list (then_pair k d ps) = (k, d) ∷ pairs_list ps

abbrev mutual
  -- how deep lists and dicts nest: 0 at a scalar, 1 at an empty list or dict
  pub depth : Doc → ℕ
  depth null = 0
  depth (boolean b) = 0
  depth (whole z) = 0
  depth (words s) = 0
  depth (list ds) = suc (docs_depth ds)
  depth (dict ps) = suc (pairs_depth ps)

  -- the depth of the deepest of these
  pub docs_depth : Docs → ℕ
  docs_depth no_docs = 0
  docs_depth (then_doc d ds) = max (depth d) (docs_depth ds)

  -- the depth of the deepest of these
  pub pairs_depth : Pairs → ℕ
  pairs_depth no_pairs = 0
  pairs_depth (then_pair k d ps) = max (depth d) (pairs_depth ps)
