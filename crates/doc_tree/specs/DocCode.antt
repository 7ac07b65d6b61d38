-- How the logic stores a document: as a tree of numbers, from which the document comes back.
use Rattle.std.specs.Prelude.{◌≡◌, ℕ, zero, suc, pos, negsuc, List, [], ◌∷◌, true, false, refl}
use Rattle.std.proofs.Common.{sym, ap, ap₂, ◌∙◌}
use base.Stored.{Gv, gnil, gnum, gcons, num, Coded}
use Rattle.doc_tree.specs.Doc.{Doc, null, boolean, whole, words, list, dict, Docs, no_docs, then_doc, Pairs, no_pairs, then_pair}

-- bytes as a tree of numbers
abbrev bytes_code : List ℕ → Gv
bytes_code [] = gnil
bytes_code (b ∷ bs) = gcons (gnum b) (bytes_code bs)

-- the bytes that were stored so
abbrev bytes_back : Gv → List ℕ
bytes_back gnil = []
bytes_back (gnum n) = []
bytes_back (gcons b bs) = num b ∷ bytes_back bs

bytes_back-bytes_code : (bs : List ℕ) → bytes_back (bytes_code bs) ≡ bs
bytes_back-bytes_code [] = refl
bytes_back-bytes_code (b ∷ bs) = ap (λ rest. b ∷ rest) (bytes_back-bytes_code bs)

-- a document as a tree of numbers: a number says the kind
abbrev mutual
  code : Doc → Gv
  code null = gnil
  code (boolean false) = gnum 0
  code (boolean true) = gnum 1
  code (whole (pos n)) = gcons (gnum 0) (gnum n)
  code (whole (negsuc n)) = gcons (gnum 1) (gnum n)
  code (words s) = gcons (gnum 2) (bytes_code s)
  code (list ds) = gcons (gnum 3) (docs_code ds)
  code (dict ps) = gcons (gnum 4) (pairs_code ps)

  docs_code : Docs → Gv
  docs_code no_docs = gnil
  docs_code (then_doc d ds) = gcons (code d) (docs_code ds)

  pairs_code : Pairs → Gv
  pairs_code no_pairs = gnil
  pairs_code (then_pair k d ps) = gcons (gcons (bytes_code k) (code d)) (pairs_code ps)

-- the document that was stored so
abbrev mutual
  back : Gv → Doc
  back gnil = null
  back (gnum zero) = boolean false
  back (gnum (suc n)) = boolean true
  back (gcons gnil g) = null
  back (gcons (gcons a b) g) = null
  back (gcons (gnum zero) g) = whole (pos (num g))
  back (gcons (gnum (suc zero)) g) = whole (negsuc (num g))
  back (gcons (gnum (suc (suc zero))) g) = words (bytes_back g)
  back (gcons (gnum (suc (suc (suc zero)))) g) = list (docs_back g)
  back (gcons (gnum (suc (suc (suc (suc n))))) g) = dict (pairs_back g)

  docs_back : Gv → Docs
  docs_back gnil = no_docs
  docs_back (gnum n) = no_docs
  docs_back (gcons d ds) = then_doc (back d) (docs_back ds)

  pairs_back : Gv → Pairs
  pairs_back gnil = no_pairs
  pairs_back (gnum n) = no_pairs
  pairs_back (gcons gnil ps) = no_pairs
  pairs_back (gcons (gnum n) ps) = no_pairs
  pairs_back (gcons (gcons k d) ps) = then_pair (bytes_back k) (back d) (pairs_back ps)

mutual
  pub back-code : (d : Doc) → back (code d) ≡ d
  back-code null = refl
  back-code (boolean false) = refl
  back-code (boolean true) = refl
  back-code (whole (pos n)) = refl
  back-code (whole (negsuc n)) = refl
  back-code (words s) = ap words (bytes_back-bytes_code s)
  back-code (list ds) = ap list (docs_back-docs_code ds)
  back-code (dict ps) = ap dict (pairs_back-pairs_code ps)

  docs_back-docs_code : (ds : Docs) → docs_back (docs_code ds) ≡ ds
  docs_back-docs_code no_docs = refl
  docs_back-docs_code (then_doc d ds) = ap₂ then_doc (back-code d) (docs_back-docs_code ds)

  pairs_back-pairs_code : (ps : Pairs) → pairs_back (pairs_code ps) ≡ ps
  pairs_back-pairs_code no_pairs = refl
  pairs_back-pairs_code (then_pair k d ps) =
      ap (λ s. then_pair s (back (code d)) (pairs_back (pairs_code ps))) (bytes_back-bytes_code k)
      ∙ ap₂ (then_pair k) (back-code d) (pairs_back-pairs_code ps)

-- the code of a document, for the models of what holds documents
abbrev pub doc_code : Coded Doc
doc_code = record { code = code; inj = λ x y p. sym (back-code x) ∙ ap back p ∙ back-code y }
