-- What was read from a list or a dict is no deeper than what that holds: for the measure of a recursion over trees in a crate above.
use Rattle.std.proofs.Common.{◌≡◌, ◌<◌, ◌≤◌, ℕ, zero, suc, List, [], ◌∷◌, map, length, get_or, subst, ap, arith}
use Rattle.doc_tree.specs.Doc.{Doc, depth, docs_of, docs_depth, pairs_of, pairs_depth}
use Rattle.doc_tree.specs.Tree.{doc_of, pair_of}
use Rattle.doc_tree.specs.declared.tree.Field.{Field}
use Rattle.doc_tree.specs.declared.tree.Tree.{Tree}

tree_within : (ts : List Tree) (i : ℕ) (t : Tree) → i < length ts → t ≡ get_or ts i t → depth (doc_of t) ≤ docs_depth (docs_of (map doc_of ts))
tree_within [] i t within is = absurd (omega arith)
tree_within (u ∷ ts) zero t within is = let same = ap (λ (v : Tree). depth (doc_of v)) is in omega (arith, same)
tree_within (u ∷ ts) (suc i) t within is = let rest = tree_within ts i t (omega arith) is in omega (arith, rest)

field_within : (fs : List Field) (i : ℕ) (f : Field) → i < length fs → f ≡ get_or fs i f → depth (doc_of f.tree) ≤ pairs_depth (pairs_of (map pair_of fs))
field_within [] i f within is = absurd (omega arith)
field_within (g ∷ fs) zero f within is = let same = ap (λ (h : Field). depth (doc_of h.tree)) is in omega (arith, same)
field_within (g ∷ fs) (suc i) f within is = let rest = field_within fs i f (omega arith) is in omega (arith, rest)

-- a tree of a list, of which a clause sees these documents
pub doc_within : (seen : List Doc) (ts : List Tree) (i : ℕ) (t : Tree) → map doc_of ts ≡ seen → i < length ts → t ≡ get_or ts i t → depth (doc_of t) ≤ docs_depth (docs_of seen)
doc_within seen ts i t view within is = subst (λ (ds : List Doc). depth (doc_of t) ≤ docs_depth (docs_of ds)) view (tree_within ts i t within is)

-- a field of a dict, of which a clause sees these pairs
pub pair_within : (seen : List (List ℕ × Doc)) (fs : List Field) (i : ℕ) (f : Field) → map pair_of fs ≡ seen → i < length fs → f ≡ get_or fs i f → depth (doc_of f.tree) ≤ pairs_depth (pairs_of seen)
pair_within seen fs i f view within is = subst (λ (ps : List (List ℕ × Doc)). depth (doc_of f.tree) ≤ pairs_depth (pairs_of ps)) view (field_within fs i f within is)
