-- The marks of a tree's lines spell that tree.
use Rattle.std.proofs.Common.{◌≡◌, ◌+◌, ◌≤◌, ℕ, zero, suc, bytes_eq, true, false, List, [], ◌∷◌, ◌++◌, None, Less, Greater, nat_cmp, is_eq, refl, ap, sym, subst, ◌∙◌, arith, append_assoc, append-nil}
use Rattle.std.proofs.lemmas.Cmp.{nat_list_cmp_total}
use Rattle.std.proofs.lemmas.Map.Text.{is_eq-slice_cmp}
use Rattle.std.specs.Cmp.Lexicographic.{slice_cmp}
use Rattle.std.specs.List.{AllByRecursion}
use Rattle.std.specs.List.Sorted.{IsStrictlySortedBy}
use Rattle.std.specs.Map.{keys_of}
use Rattle.std.specs.Ordering.{ordering_reverse}
use Rattle.doc_tree.specs.Doc.{Doc, null, boolean, whole, words, list, dict, Docs, no_docs, then_doc, Pairs, no_pairs, then_pair, docs_list, pairs_of, pairs_list, depth, docs_depth, pairs_depth}
use Rattle.doc_tree.specs.Part.{pair_at, with_pair}
use Rattle.doc_tree.specs.Valid.{IsDoc, AreDocs, ArePairs, InOrder}
use Rattle.doc_tree.proofs.Docs.{docs_of-docs_list, pairs_of-pairs_list}
use Rattle.doc_tree.proofs.Maps.{bytes_eq-symm}
use Rattle.yaml_subset.specs.Nodes.{Node, value, block, Block, block_list, block_map, Items, first_item, next_item, Entries, first_entry, next_entry, SpellsMarks, one_block}
use Rattle.yaml_subset.specs.Written.{is_block}
use Rattle.yaml_subset.specs.declared.mark.Mark.{Mark}
use Rattle.yaml_subset.specs.declared.mark.Mark.TheVariants.{Dash, Key, Value}

abbrev mutual
  -- the marks of a part behind its dash or key, where its lines stand at this column
  pub part_marks : ℕ → Doc → List Mark
  part_marks c null = Value null ∷ []
  part_marks c (boolean b) = Value (boolean b) ∷ []
  part_marks c (whole z) = Value (whole z) ∷ []
  part_marks c (words s) = Value (words s) ∷ []
  part_marks c (list no_docs) = Value (list no_docs) ∷ []
  part_marks c (list (then_doc d ds)) = Dash c ∷ (part_marks (suc (suc c)) d ++ items_marks c ds)
  part_marks c (dict no_pairs) = Value (dict no_pairs) ∷ []
  part_marks c (dict (then_pair k d ps)) = Key c k ∷ (part_marks (suc (suc c)) d ++ pairs_marks c ps)

  -- the marks of items at this column
  pub items_marks : ℕ → Docs → List Mark
  items_marks c no_docs = []
  items_marks c (then_doc d ds) = Dash c ∷ (part_marks (suc (suc c)) d ++ items_marks c ds)

  -- the marks of keys at this column
  pub pairs_marks : ℕ → Pairs → List Mark
  pairs_marks c no_pairs = []
  pairs_marks c (then_pair k d ps) = Key c k ∷ (part_marks (suc (suc c)) d ++ pairs_marks c ps)

-- ---- keys come in order, so each goes behind those before it

below_later : (first : List ℕ) (done : List (List ℕ × Doc)) (p : List ℕ × Doc) (more : List (List ℕ × Doc)) → AllByRecursion (λ y. slice_cmp nat_cmp first y ≡ Less) (keys_of (done ++ p ∷ more))
    → slice_cmp nat_cmp first p.0 ≡ Less
below_later first [] p more h = h.0
below_later first (q ∷ done) p more h = below_later first done p more h.1

above_first : (first k : List ℕ) (d : Doc) (done more : List (List ℕ × Doc)) → AllByRecursion (λ y. slice_cmp nat_cmp first y ≡ Less) (keys_of (done ++ (k, d) ∷ more)) → slice_cmp nat_cmp k first ≡ Greater
above_first first k d done more h = nat_list_cmp_total.antisymm k first ∙ ap ordering_reverse (below_later first done (k, d) more h)

put_last : (done : List (List ℕ × Doc)) (k : List ℕ) (d : Doc) (more : List (List ℕ × Doc)) → InOrder (keys_of (done ++ (k, d) ∷ more)) → with_pair k d done ≡ done ++ (k, d) ∷ []
unfolding IsStrictlySortedBy
put_last [] k d more order = refl
put_last (p ∷ done) k d more order = let above = above_first p.0 k d done more order.0 in rw above (ap (λ (l : List (List ℕ × Doc)). p ∷ l) (put_last done k d more order.1))

no_pair : (done : List (List ℕ × Doc)) (k : List ℕ) (d : Doc) (more : List (List ℕ × Doc)) → InOrder (keys_of (done ++ (k, d) ∷ more)) → pair_at k (pairs_of done) ≡ None
unfolding IsStrictlySortedBy
no_pair [] k d more order = refl
no_pair (p ∷ done) k d more order =
    let other : bytes_eq p.0 k ≡ false = bytes_eq-symm p.0 k ∙ sym (is_eq-slice_cmp k p.0) ∙ ap is_eq (above_first p.0 k d done more order.0) in
    rw other (no_pair done k d more order.1)

-- ---- the marks of a tree spell it

list_block : (d : Doc) (ds : Docs) (c room lists maps : ℕ) → lists ≤ c → Node room (c + 1) (c + 1) (part_marks (suc (suc c)) d) d
    → ((u : List Mark) (done : List Doc) → Items room c u done → Items room c (u ++ items_marks c ds) (done ++ docs_list ds))
    → Block (suc room) lists maps (part_marks c (list (then_doc d ds))) (list (then_doc d ds))
list_block d ds c room lists maps right first more =
    subst (λ (l : Docs). Block (suc room) lists maps (part_marks c (list (then_doc d ds))) (list (then_doc d l))) (docs_of-docs_list ds) (block_list right (more (Dash c ∷ part_marks (suc (suc c)) d) (d ∷ []) (first_item first)))

dict_block : (k : List ℕ) (d : Doc) (ps : Pairs) (c room lists maps : ℕ) → maps ≤ c → Node room c (c + 1) (part_marks (suc (suc c)) d) d
    → ((u : List Mark) → Entries room c u ((k, d) ∷ []) → Entries room c (u ++ pairs_marks c ps) ((k, d) ∷ pairs_list ps))
    → Block (suc room) lists maps (part_marks c (dict (then_pair k d ps))) (dict (then_pair k d ps))
dict_block k d ps c room lists maps right first more =
    subst (λ (l : Pairs). Block (suc room) lists maps (part_marks c (dict (then_pair k d ps))) (dict (then_pair k d l))) (pairs_of-pairs_list ps) (block_map right (more (Key c k ∷ part_marks (suc (suc c)) d) (first_entry k first)))

mutual
  part_node : (d : Doc) (c room lists maps : ℕ) → IsDoc d → depth d ≤ room → lists ≤ c → maps ≤ c → Node room lists maps (part_marks c d) d
  part_node null c room lists maps v fits l m = value fits
  part_node (boolean b) c room lists maps v fits l m = value fits
  part_node (whole z) c room lists maps v fits l m = value fits
  part_node (words s) c room lists maps v fits l m = value fits
  part_node (list no_docs) c room lists maps v fits l m = value fits
  part_node (dict no_pairs) c room lists maps v fits l m = value fits
  part_node (list (then_doc d ds)) c zero lists maps v fits l m = absurd (omega arith)
  part_node (list (then_doc d ds)) c (suc room) lists maps v fits l m =
      block (list_block d ds c room lists maps l (part_node d (suc (suc c)) room (c + 1) (c + 1) v.0 (omega arith) (omega arith) (omega arith)) (λ u done items. items_node ds c room u done items v.1 (omega arith)))
  part_node (dict (then_pair k d ps)) c zero lists maps v fits l m = absurd (omega arith)
  part_node (dict (then_pair k d ps)) c (suc room) lists maps v fits l m =
      block (dict_block k d ps c room lists maps m (part_node d (suc (suc c)) room c (c + 1) v.0.1 (omega arith) (omega arith) (omega arith)) (λ u entries. pairs_node ps c room u ((k, d) ∷ []) entries v.0.2 v.1 (omega arith)))

  items_node : (ds : Docs) (c room : ℕ) (u : List Mark) (done : List Doc) → Items room c u done → AreDocs ds → docs_depth ds ≤ room → Items room c (u ++ items_marks c ds) (done ++ docs_list ds)
  items_node no_docs c room u done items v fits = subst (λ (l : List Mark). Items room c l (done ++ [])) (sym (append-nil u)) (subst (λ (l : List Doc). Items room c u l) (sym (append-nil done)) items)
  items_node (then_doc d ds) c room u done items v fits =
      let next = next_item items (part_node d (suc (suc c)) room (c + 1) (c + 1) v.0 (omega arith) (omega arith) (omega arith)) in
      subst (λ (l : List Mark). Items room c l (done ++ d ∷ docs_list ds)) (append_assoc u (Dash c ∷ part_marks (suc (suc c)) d) (items_marks c ds))
      (subst (λ (l : List Doc). Items room c ((u ++ Dash c ∷ part_marks (suc (suc c)) d) ++ items_marks c ds) l) (append_assoc done (d ∷ []) (docs_list ds))
      (items_node ds c room (u ++ Dash c ∷ part_marks (suc (suc c)) d) (done ++ d ∷ []) next v.1 (omega arith)))

  pairs_node : (ps : Pairs) (c room : ℕ) (u : List Mark) (done : List (List ℕ × Doc)) → Entries room c u done → ArePairs ps → InOrder (keys_of (done ++ pairs_list ps)) → pairs_depth ps ≤ room
      → Entries room c (u ++ pairs_marks c ps) (done ++ pairs_list ps)
  pairs_node no_pairs c room u done entries v order fits = subst (λ (l : List Mark). Entries room c l (done ++ [])) (sym (append-nil u)) (subst (λ (l : List (List ℕ × Doc)). Entries room c u l) (sym (append-nil done)) entries)
  pairs_node (then_pair k d ps) c room u done entries v order fits =
      let again = append_assoc done ((k, d) ∷ []) (pairs_list ps) in
      let next = next_entry k entries (no_pair done k d (pairs_list ps) order) (part_node d (suc (suc c)) room c (c + 1) v.1 (omega arith) (omega arith) (omega arith)) in
      let last = subst (λ (l : List (List ℕ × Doc)). Entries room c (u ++ Key c k ∷ part_marks (suc (suc c)) d) l) (put_last done k d (pairs_list ps) order) next in
      subst (λ (l : List Mark). Entries room c l (done ++ (k, d) ∷ pairs_list ps)) (append_assoc u (Key c k ∷ part_marks (suc (suc c)) d) (pairs_marks c ps))
      (subst (λ (l : List (List ℕ × Doc)). Entries room c ((u ++ Key c k ∷ part_marks (suc (suc c)) d) ++ pairs_marks c ps) l) again
      (pairs_node ps c room (u ++ Key c k ∷ part_marks (suc (suc c)) d) (done ++ (k, d) ∷ []) last v.2 (subst (λ (l : List (List ℕ × Doc)). InOrder (keys_of l)) (sym again) order) (omega arith)))

-- ---- the whole

-- the marks of a block at the left edge spell it
pub block_marks : (d : Doc) → IsDoc d → is_block d ≡ true → depth d ≤ 100 → SpellsMarks (part_marks 0 d) d
block_marks null v is shallow = cc
block_marks (boolean b) v is shallow = cc
block_marks (whole z) v is shallow = cc
block_marks (words s) v is shallow = cc
block_marks (list no_docs) v is shallow = cc
block_marks (dict no_pairs) v is shallow = cc
block_marks (list (then_doc d ds)) v is shallow =
    one_block (list_block d ds 0 99 0 0 (omega arith) (part_node d 2 99 (0 + 1) (0 + 1) v.0 (omega arith) (omega arith) (omega arith)) (λ u done items. items_node ds 0 99 u done items v.1 (omega arith)))
block_marks (dict (then_pair k d ps)) v is shallow =
    one_block (dict_block k d ps 0 99 0 0 (omega arith) (part_node d 2 99 0 (0 + 1) v.0.1 (omega arith) (omega arith) (omega arith)) (λ u entries. pairs_node ps 0 99 u ((k, d) ∷ []) entries v.0.2 v.1 (omega arith)))
