-- What is written, piece by piece.
use Rattle.std.proofs.Common.{◌≡◌, ◌↔◌, ◌<◌, ◌≤◌, ℕ, zero, suc, length, get_or, subst, arith, List, [], ◌∷◌, ◌++◌, Bool, true, false, map, IsTrue, refl, ap, sym, ◌∙◌, append_assoc, append-nil}
use Rattle.std.proofs.lemmas.Bool.{false≢true}
use mathlib.Core.Bool.{not}
use Rattle.doc_tree.specs.Doc.{Doc, list, dict, depth, docs_depth, docs_of, pairs_depth, pairs_of}
use Rattle.doc_tree.specs.Tree.{doc_of, pair_of}
use Rattle.doc_tree.specs.declared.tree.Tree.{Tree}
use Rattle.doc_tree.specs.declared.tree.Field.{Field}
use Rattle.yaml_subset.specs.Written.{char_text, escaped, is_block}

pub escaped_more : (xs : List ℕ) (c : ℕ) → escaped (xs ++ c ∷ []) ≡ escaped xs ++ char_text c
escaped_more [] c = append-nil (char_text c)
escaped_more (x ∷ xs) c = ap (λ (t : List ℕ). char_text x ++ t) (escaped_more xs c) ∙ sym (append_assoc (char_text x) (escaped xs) (char_text c))

pub map_same : (xs : List ℕ) → map (λ (x : ℕ). x) xs ≡ xs
map_same [] = refl
map_same (x ∷ xs) = ap (λ (t : List ℕ). x ∷ t) (map_same xs)

pub list_block : (b : Bool) (ds : List Doc) → (IsTrue b ↔ (ds ≡ [])) → not b ≡ is_block (list (docs_of ds))
list_block true [] h = refl
list_block false [] h = absurd (false≢true (h.1 refl))
list_block true (d ∷ ds) h = let none = h.0 refl in cc
list_block false (d ∷ ds) h = refl

pub dict_block : (b : Bool) (ps : List (List ℕ × Doc)) → (IsTrue b ↔ (ps ≡ [])) → not b ≡ is_block (dict (pairs_of ps))
dict_block true [] h = refl
dict_block false [] h = absurd (false≢true (h.1 refl))
dict_block true (p ∷ ps) h = let none = h.0 refl in cc
dict_block false (p ∷ ps) h = refl

-- ---- a part is no deeper than the deepest

tree_depth : (ts : List Tree) (i : ℕ) (x : Tree) → i < length ts → x ≡ get_or ts i x → depth (doc_of x) ≤ docs_depth (docs_of (map doc_of ts))
tree_depth [] i x less is = absurd (omega arith)
tree_depth (t ∷ ts) zero x less is = let same : depth (doc_of x) ≡ depth (doc_of t) = ap (λ (y : Tree). depth (doc_of y)) is in omega arith
tree_depth (t ∷ ts) (suc i) x less is = let rest = tree_depth ts i x (omega arith) is in omega arith

pub item_depth : (ts : List Tree) (i : ℕ) (x : Tree) (ds : List Doc) → i < length ts → x ≡ get_or ts i x → map doc_of ts ≡ ds → depth (doc_of x) ≤ docs_depth (docs_of ds)
item_depth ts i x ds less is same = subst (λ (l : List Doc). depth (doc_of x) ≤ docs_depth (docs_of l)) same (tree_depth ts i x less is)

field_at : (fs : List Field) (i : ℕ) (x : Field) → i < length fs → x ≡ get_or fs i x → depth (doc_of x.tree) ≤ pairs_depth (pairs_of (map pair_of fs))
field_at [] i x less is = absurd (omega arith)
field_at (f ∷ fs) zero x less is = let same : depth (doc_of x.tree) ≡ depth (doc_of f.tree) = ap (λ (y : Field). depth (doc_of y.tree)) is in omega arith
field_at (f ∷ fs) (suc i) x less is = let rest = field_at fs i x (omega arith) is in omega arith

pub field_depth : (fs : List Field) (i : ℕ) (x : Field) (ps : List (List ℕ × Doc)) → i < length fs → x ≡ get_or fs i x → map pair_of fs ≡ ps → depth (doc_of x.tree) ≤ pairs_depth (pairs_of ps)
field_depth fs i x ps less is same = subst (λ (l : List (List ℕ × Doc)). depth (doc_of x.tree) ≤ pairs_depth (pairs_of l)) same (field_at fs i x less is)
