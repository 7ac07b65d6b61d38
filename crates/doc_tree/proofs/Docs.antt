-- Lists of documents and pairs, and the same in a document.
use Rattle.std.proofs.Common.{◌≡◌, ℕ, List, [], ◌∷◌, ◌++◌, refl, sym, ap, ◌∙◌, IsUtf8}
use Rattle.doc_tree.specs.Doc.{Doc, null, boolean, whole, words, list, dict, Docs, no_docs, then_doc, Pairs, no_pairs, then_pair, docs_of, docs_list, pairs_of, pairs_list}
use Rattle.doc_tree.specs.Tree.{doc_of, pair_of, tree_of}
use Rattle.doc_tree.specs.Valid.{IsDoc, AreDocs, ArePairs}
use Rattle.doc_tree.specs.declared.tree.Field.{Field}
use Rattle.doc_tree.specs.declared.tree.Tree.{Tree}
use Rattle.doc_tree.specs.declared.tree.Tree.TheVariants as tree

pub docs_list-docs_of : (ds : List Doc) → docs_list (docs_of ds) ≡ ds
docs_list-docs_of [] = refl
docs_list-docs_of (d ∷ ds) = ap (λ rest. d ∷ rest) (docs_list-docs_of ds)

pub docs_of-docs_list : (ds : Docs) → docs_of (docs_list ds) ≡ ds
docs_of-docs_list no_docs = refl
docs_of-docs_list (then_doc d ds) = ap (then_doc d) (docs_of-docs_list ds)

pub pairs_list-pairs_of : (ps : List (List ℕ × Doc)) → pairs_list (pairs_of ps) ≡ ps
pairs_list-pairs_of [] = refl
pairs_list-pairs_of (p ∷ ps) = ap (λ rest. p ∷ rest) (pairs_list-pairs_of ps)

pub pairs_of-pairs_list : (ps : Pairs) → pairs_of (pairs_list ps) ≡ ps
pairs_of-pairs_list no_pairs = refl
pairs_of-pairs_list (then_pair k d ps) = ap (then_pair k d) (pairs_of-pairs_list ps)

-- a list that went into a document comes back from it
pub ruleset back = (docs_list-docs_of, pairs_list-pairs_of)

-- the tree that a document is, is that document
pub doc_of-tree_of : (d : Doc) → doc_of (tree_of d) ≡ d
doc_of-tree_of null = refl
doc_of-tree_of (boolean b) = refl
doc_of-tree_of (whole z) = refl
doc_of-tree_of (words s) = refl
doc_of-tree_of (list ds) = ap list (docs_of-docs_list ds)
doc_of-tree_of (dict ps) = ap dict (pairs_of-pairs_list ps)

-- the document that a tree is, is that tree
pub tree_of-doc_of : (t : Tree) → tree_of (doc_of t) ≡ t
tree_of-doc_of tree.Null = refl
tree_of-doc_of (tree.Bool b) = refl
tree_of-doc_of (tree.Whole z) = refl
tree_of-doc_of (tree.Words s) = refl
tree_of-doc_of (tree.List ds) = ap tree.List (docs_list-docs_of ds)
tree_of-doc_of (tree.Dict ps) = ap tree.Dict (pairs_list-pairs_of ps)

-- a tree and its document come back from each other
pub ruleset trees = (doc_of-tree_of, tree_of-doc_of)

-- trees of one document are one tree
pub doc_of-inj : (t u : Tree) → doc_of t ≡ doc_of u → t ≡ u
doc_of-inj t u e = sym (tree_of-doc_of t) ∙ ap tree_of e ∙ tree_of-doc_of u

-- fields of one key and document are one field
pub pair_of-inj : (f g : Field) → pair_of f ≡ pair_of g → f ≡ g
pair_of-inj f g e =
    let trees : f.tree ≡ g.tree = doc_of-inj f.tree g.tree (ap (λ p. p.1) e) in
    λ i. record { key = (e i).0; tree = trees i }

pub AreDocs-append : (ds : List Doc) (d : Doc) → AreDocs (docs_of ds) → IsDoc d → AreDocs (docs_of (ds ++ d ∷ []))
AreDocs-append [] d all one = (one, tt)
AreDocs-append (e ∷ ds) d all one = (all.0, AreDocs-append ds d all.1 one)

pub ArePairs-append : (ps : List (List ℕ × Doc)) (k : List ℕ) (d : Doc) → ArePairs (pairs_of ps) → IsUtf8 k → IsDoc d
    → ArePairs (pairs_of (ps ++ (k, d) ∷ []))
ArePairs-append [] k d all key one = (key, one, tt)
ArePairs-append (p ∷ ps) k d all key one = (all.0, all.1, ArePairs-append ps k d all.2 key one)
