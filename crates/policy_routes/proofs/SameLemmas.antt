-- Trees are equal where the texts of their documents are.
use Rattle.std.proofs.Common.{◌≡◌, ◌↔◌, ℕ, Bool, true, false, List, bytes_eq, IsTrue, refl, sym, ap, ◌∙◌}
use Rattle.std.proofs.lemmas.Slice.Eq.{bytes_eq-Decides}
use Rattle.std.specs.Cmp.Lexicographic.{nat_list_eq_equiv}
use Rattle.doc_tree.proofs.Docs.{tree_of-doc_of}
use Rattle.doc_tree.specs.Doc.{Doc}
use Rattle.doc_tree.specs.Tree.{doc_of, tree_of}
use Rattle.doc_tree.specs.Valid.{IsDoc}
use Rattle.doc_tree.specs.Written.{text}
use Rattle.doc_tree.specs.declared.tree.Tree.{Tree}

same_tree : (one other : Tree) → doc_of one ≡ doc_of other → one ≡ other
same_tree one other same = sym (tree_of-doc_of one) ∙ ap tree_of same ∙ tree_of-doc_of other

equal_texts : (s t : List ℕ) → s ≡ t → bytes_eq s t ≡ true
equal_texts s t same = ap (bytes_eq s) (sym same) ∙ nat_list_eq_equiv.refl s

either : (one other : Tree) (same texts : Bool) → IsDoc (doc_of one) → IsDoc (doc_of other) → ((d e : Doc) → IsDoc d → IsDoc e → text d ≡ text e → d ≡ e) → (IsTrue same ↔ (one ≡ other))
    → bytes_eq (text (doc_of one)) (text (doc_of other)) ≡ texts → same ≡ texts
either one other true true known known_other law told is = refl
either one other true false known known_other law told is = sym (equal_texts (text (doc_of one)) (text (doc_of other)) (ap (λ t. text (doc_of t)) (told.0 refl))) ∙ is
either one other false true known known_other law told is =
    told.1 (same_tree one other (law (doc_of one) (doc_of other) known known_other ((bytes_eq-Decides (text (doc_of one)) (text (doc_of other))).0 is)))
either one other false false known known_other law told is = refl

pub same_texts : (one other : Tree) (same : Bool) → IsDoc (doc_of one) → IsDoc (doc_of other) → ((d e : Doc) → IsDoc d → IsDoc e → text d ≡ text e → d ≡ e) → (IsTrue same ↔ (one ≡ other))
    → same ≡ bytes_eq (text (doc_of one)) (text (doc_of other))
same_texts one other same known known_other law told = either one other same (bytes_eq (text (doc_of one)) (text (doc_of other))) known known_other law told refl
