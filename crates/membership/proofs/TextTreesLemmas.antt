-- Texts that are read from trees one by one, and read back.
use Rattle.std.proofs.Common.{◌≡◌, ◌<◌, ◌+◌, ℕ, List, [], ◌∷◌, ◌++◌, map, length, drop, get_or, Some, None, true, if◌then◌else◌, refl, sym, ap, ◌∙◌}
use Rattle.std.proofs.lemmas.List.{drop_more}
use Rattle.doc_tree.specs.Doc.{words, docs_of}
use Rattle.doc_tree.specs.Tree.{doc_of}
use Rattle.doc_tree.specs.declared.tree.Tree.{Tree}
use Rattle.membership.specs.TextTrees.{are_texts, text_before, texts_among, texts_in, texts_doc}

-- after one more tree, the texts are those so far, and then those of the trees that are left
pub one_more : (ts : List Tree) (i : ℕ) (t : Tree) (done now whole : List (List ℕ)) → i < length ts → t ≡ get_or ts i t
    → ((rest : List (List ℕ)) → now ++ rest ≡ done ++ text_before (doc_of t) rest)
    → done ++ texts_among (docs_of (map doc_of (drop i ts))) ≡ whole
    → now ++ texts_among (docs_of (map doc_of (drop (i + 1) ts))) ≡ whole
one_more ts i t done now whole within is pushed so_far =
    let rest = texts_among (docs_of (map doc_of (drop (i + 1) ts))) in
    let here : texts_among (docs_of (map doc_of (drop i ts))) ≡ text_before (doc_of t) rest =
    ap (λ us. texts_among (docs_of (map doc_of us))) (drop_more ts i t within) ∙ ap (λ d. text_before (doc_of d) rest) (sym is) in
    pushed rest ∙ ap (λ texts. done ++ texts) (sym here) ∙ so_far

-- the list of texts has nothing but texts
are_texts-words : (texts : List (List ℕ)) → are_texts (docs_of (map words texts)) ≡ true
are_texts-words [] = refl
are_texts-words (text ∷ texts) = are_texts-words texts

texts_among-words : (texts : List (List ℕ)) → texts_among (docs_of (map words texts)) ≡ texts
texts_among-words [] = refl
texts_among-words (text ∷ texts) = ap (λ rest. text ∷ rest) (texts_among-words texts)

-- the texts of a list come back from its document
pub texts_back : (texts : List (List ℕ)) → texts_in (texts_doc texts) ≡ Some texts
texts_back texts =
    ap (λ b. if b then Some (texts_among (docs_of (map words texts))) else None) (are_texts-words texts) ∙ ap Some (texts_among-words texts)
