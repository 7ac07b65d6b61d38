-- The text of a tree spells that tree.
use Rattle.std.proofs.Common.{◌≡◌, ◌==◌, ◌+◌, ◌≤◌, ◌&&◌, ◌||◌, ℕ, zero, suc, Bool, true, false, bytes_eq, codes, List, [], ◌∷◌, ◌++◌, Option, Some, None, option_map, inl, inr, refl, ap, sym, subst, ◌∙◌, arith, append_assoc, append-nil}
use Rattle.std.proofs.lemmas.Bool.{and_right, or_parts, or_from, cond-true, cond-false, cases_Bool, both_ways}
use Rattle.std.specs.List.{list_all}
use Rattle.std.specs.Str.Lines.{lines}
use Rattle.doc_tree.specs.Doc.{Doc, null, boolean, whole, words, list, dict, Docs, no_docs, then_doc, Pairs, no_pairs, then_pair, depth}
use Rattle.doc_tree.specs.Valid.{IsDoc, AreDocs, ArePairs}
use Rattle.yaml_subset.specs.Layout.{is_lone, rest_marks}
use Rattle.yaml_subset.specs.Nodes.{alone}
use Rattle.yaml_subset.specs.Said.{said_at}
use Rattle.yaml_subset.specs.Says.{a_said}
use Rattle.yaml_subset.specs.Signs.{has_tab, is_marker, is_opening, is_passed, spaces}
use Rattle.yaml_subset.specs.Spells.{Spells}
use Rattle.yaml_subset.specs.Written.{block_text, deeper, is_block, items_text, node_text, pairs_text, scalar_text, words_text, written}
use Rattle.yaml_subset.specs.declared.mark.Mark.{Mark}
use Rattle.yaml_subset.specs.declared.mark.Mark.TheVariants.{Bare, Dash, Key, Value}
use Rattle.yaml_subset.specs.declared.said.Rest.{Rest}
use Rattle.yaml_subset.specs.declared.said.Rest.TheVariants.{Nothing, Scalar}
use Rattle.yaml_subset.proofs.BlockLemmas.{block_marks, items_marks, pairs_marks, part_marks}
use Rattle.yaml_subset.proofs.CutLemmas.{all_append, is_inline, next_line}
use Rattle.yaml_subset.proofs.Laid.{lays, lays_said, next_mode, outside}
use Rattle.yaml_subset.proofs.PartLemmas.{IsHead, Reads, dash_head, key_head, said_back, scalar_reads}
use Rattle.yaml_subset.proofs.LaysLemmas.{are_lays}
use Rattle.yaml_subset.proofs.SignsLemmas.{passed_spaces}

-- ---- lines behind their indent

tab_spaces : (n : ℕ) (text : List ℕ) → has_tab (spaces n ++ text) ≡ has_tab text
tab_spaces zero text = refl
tab_spaces (suc n) text = tab_spaces n text

marker_spaces : (n : ℕ) (text : List ℕ) → is_marker text ≡ false → is_marker (spaces n ++ text) ≡ false
marker_spaces zero text no_ = no_
marker_spaces (suc n) text no_ = refl

said_spaces : (n c : ℕ) (text : List ℕ) → said_at 0 c (spaces n ++ text) ≡ said_at 0 (n + c) text
said_spaces zero c text = ap (λ (k : ℕ). said_at 0 k text) (omega arith)
said_spaces (suc n) c text = said_spaces n (c + 1) text ∙ ap (λ (k : ℕ). said_at 0 k text) (omega arith)

spaces_inline : (n : ℕ) → list_all is_inline (spaces n) ≡ true
spaces_inline zero = refl
spaces_inline (suc n) = spaces_inline n

pub deeper_spaces : (n : ℕ) → deeper (spaces n) ≡ spaces (suc (suc n))
deeper_spaces zero = refl
deeper_spaces (suc n) = ap (λ (l : List ℕ). 32 ∷ l) (deeper_spaces n)

-- how a line's text begins
record Starts (text : List ℕ) : Type 0 where
  pub first : ℕ
  pub after : List ℕ
  pub is : text ≡ first ∷ after
  pub space : (first == 32) ≡ false
  pub hash : (first == 35) ≡ false
  pub tab : (first == 9) ≡ false

passed_line : (n : ℕ) (text : List ℕ) → Starts text → is_passed (spaces n ++ text) ≡ false
passed_line n text s = passed_spaces n text ∙ ap is_passed s.is ∙ cond-false (s.first == 32) (is_passed s.after) (s.first == 35) s.space ∙ s.hash

tab_line : (n : ℕ) (text : List ℕ) → Starts text → has_tab (spaces n ++ text) ≡ false
tab_line n text s = tab_spaces n text ∙ ap has_tab s.is ∙ cond-false (s.first == 32) (has_tab s.after) (s.first == 9) s.space ∙ s.tab

-- the marks of a line, and of those behind it
line_lays : (n : ℕ) (text : List ℕ) (first : Bool) (heads : List Mark) (above : ℕ) (rest : Rest) (more : List (List ℕ)) → Starts text → is_marker text ≡ false
    → said_at 0 n text ≡ Some (a_said heads above rest) → next_mode heads above rest ≡ outside false
    → lays (outside first) ((spaces n ++ text) ∷ more) ≡ option_map (λ ms. (heads ++ rest_marks (is_lone heads) rest) ++ ms) (lays (outside false) more)
line_lays n text first heads above rest more s marker said mode =
    let closing = marker_spaces n text marker in
    let column : n + 0 ≡ n = omega arith in
    cond-false (is_passed (spaces n ++ text)) _ _ (passed_line n text s)
    ∙ cond-false (first && is_opening (spaces n ++ text)) _ _ (and_right first (is_opening (spaces n ++ text)) (or_parts (is_opening (spaces n ++ text)) (bytes_eq (spaces n ++ text) (codes "...")) closing).0)
    ∙ cond-false (is_marker (spaces n ++ text) || has_tab (spaces n ++ text)) _ _ (or_from _ _ closing (tab_line n text s))
    ∙ ap (lays_said (λ mode. lays mode more)) (said_spaces n 0 text ∙ ap (λ (k : ℕ). said_at 0 k text) column ∙ said)
    ∙ ap (λ mode. option_map (λ ms. (heads ++ rest_marks (is_lone heads) rest) ++ ms) (lays mode more)) mode

text_lays : (n : ℕ) (text more : List ℕ) (first : Bool) (heads : List Mark) (above : ℕ) (rest : Rest) → Starts text → list_all is_inline text ≡ true → is_marker text ≡ false
    → said_at 0 n text ≡ Some (a_said heads above rest) → next_mode heads above rest ≡ outside false
    → lays (outside first) (lines ((spaces n ++ text) ++ 10 ∷ more)) ≡ option_map (λ ms. (heads ++ rest_marks (is_lone heads) rest) ++ ms) (lays (outside false) (lines more))
text_lays n text more first heads above rest s inline marker said mode =
    ap (lays (outside first)) (next_line (spaces n ++ text) more (all_append is_inline (spaces n) text (spaces_inline n) inline))
    ∙ line_lays n text first heads above rest (lines more) s marker said mode

-- ---- a dash or key and what is behind it

head_starts : (c : ℕ) (head more : List ℕ) (m : Mark) → IsHead c head m → Starts (head ++ more)
head_starts c head more m h = record { first = h.first; after = h.after ++ more; is = ap (λ (t : List ℕ). t ++ more) h.is; space = h.space; hash = h.hash; tab = h.tab }

head_alone : (c : ℕ) (head : List ℕ) (m : Mark) → IsHead c head m → Starts head
head_alone c head m h = record { first = h.first; after = h.after; is = h.is; space = h.space; hash = h.hash; tab = h.tab }

two_maps : (front back : List Mark) (o : Option (List Mark)) → option_map (λ ms. front ++ ms) (option_map (λ ms. back ++ ms) o) ≡ option_map (λ ms. (front ++ back) ++ ms) o
two_maps front back None = refl
two_maps front back (Some ms) = ap Some (sym (append_assoc front back ms))

no_marks : (o : Option (List Mark)) → o ≡ option_map (λ ms. [] ++ ms) o
no_marks None = refl
no_marks (Some ms) = refl

block_apart : (front head below more : List ℕ) → (front ++ (head ++ 10 ∷ below)) ++ more ≡ (front ++ head) ++ 10 ∷ (below ++ more)
block_apart front head below more =
    append_assoc front (head ++ 10 ∷ below) more ∙ ap (λ (t : List ℕ). front ++ t) (append_assoc head (10 ∷ below) more) ∙ sym (append_assoc front head (10 ∷ (below ++ more)))

scalar_apart : (front head text more : List ℕ) → (front ++ (head ++ 32 ∷ (text ++ 10 ∷ []))) ++ more ≡ (front ++ (head ++ 32 ∷ text)) ++ 10 ∷ more
scalar_apart front head text more =
    append_assoc front (head ++ 32 ∷ (text ++ 10 ∷ [])) more
    ∙ ap (λ (t : List ℕ). front ++ t) (append_assoc head (32 ∷ (text ++ 10 ∷ [])) more ∙ ap (λ (t : List ℕ). head ++ 32 ∷ t) (append_assoc text (10 ∷ []) more) ∙ sym (append_assoc head (32 ∷ text) (10 ∷ more)))
    ∙ sym (append_assoc front (head ++ 32 ∷ text) (10 ∷ more))

-- what is behind a dash or key: a block on the lines below, or a scalar
abbrev Below : ℕ → Bool → Doc → List ℕ → Type 0
Below c block d more = block ≡ true → lays (outside false) (lines (block_text (spaces c) d ++ more)) ≡ option_map (λ ms. part_marks c d ++ ms) (lays (outside false) (lines more))

node_lays : (c : ℕ) (head : List ℕ) (m : Mark) (block : Bool) (d : Doc) (below more : List ℕ) (inner : List Mark) (first : Bool) → IsHead c head m
    → (block ≡ true → lays (outside false) (lines (below ++ more)) ≡ option_map (λ ms. inner ++ ms) (lays (outside false) (lines more)))
    → (block ≡ false → Reads (scalar_text d) d) → (block ≡ false → inner ≡ Value d ∷ [])
    → lays (outside first) (lines ((spaces c ++ (head ++ node_text block (scalar_text d) below)) ++ more)) ≡ option_map (λ ms. (m ∷ inner) ++ ms) (lays (outside false) (lines more))
node_lays c head m true d below more inner first h deep reads marks =
    ap (λ (t : List ℕ). lays (outside first) (lines t)) (block_apart (spaces c) head below more)
    ∙ text_lays c head (below ++ more) first (m ∷ []) h.above Nothing (head_alone c head m h) h.inline (ap is_marker (sym (append-nil head)) ∙ h.marker [] refl) h.alone refl
    ∙ ap (option_map (λ ms. (m ∷ []) ++ ms)) (deep refl) ∙ two_maps (m ∷ []) inner (lays (outside false) (lines more))
node_lays c head m false d below more inner first h deep reads marks =
    let r = reads refl in
    ap (λ (t : List ℕ). lays (outside first) (lines t)) (scalar_apart (spaces c) head (scalar_text d) more)
    ∙ text_lays c (head ++ 32 ∷ scalar_text d) more first (m ∷ []) h.above (Scalar d) (head_starts c head (32 ∷ scalar_text d) m h) (all_append is_inline head (32 ∷ scalar_text d) h.inline r.inline)
    (h.marker (32 ∷ scalar_text d) refl) (h.full (scalar_text d) d r) refl
    ∙ ap (λ (l : List Mark). option_map (λ ms. (m ∷ l) ++ ms) (lays (outside false) (lines more))) (sym (marks refl))

scalar_marks : (c : ℕ) (d : Doc) → is_block d ≡ false → part_marks c d ≡ Value d ∷ []
scalar_marks c null no_ = refl
scalar_marks c (boolean b) no_ = refl
scalar_marks c (whole z) no_ = refl
scalar_marks c (words s) no_ = refl
scalar_marks c (list no_docs) no_ = refl
scalar_marks c (list (then_doc d ds)) no_ = absurd (both_ways true no_ refl)
scalar_marks c (dict no_pairs) no_ = refl
scalar_marks c (dict (then_pair k d ps)) no_ = absurd (both_ways true no_ refl)

part_lays : (c : ℕ) (head : List ℕ) (m : Mark) (d : Doc) (more : List ℕ) (first : Bool) → IsHead c head m → IsDoc d → Below (suc (suc c)) (is_block d) d more
    → lays (outside first) (lines ((spaces c ++ (head ++ node_text (is_block d) (scalar_text d) (block_text (deeper (spaces c)) d))) ++ more))
    ≡ option_map (λ ms. (m ∷ part_marks (suc (suc c)) d) ++ ms) (lays (outside false) (lines more))
part_lays c head m d more first h v deep =
    ap (λ (front : List ℕ). lays (outside first) (lines ((spaces c ++ (head ++ node_text (is_block d) (scalar_text d) (block_text front d))) ++ more))) (deeper_spaces c)
    ∙ node_lays c head m (is_block d) d (block_text (spaces (suc (suc c))) d) more (part_marks (suc (suc c)) d) first h deep (scalar_reads d v) (scalar_marks (suc (suc c)) d)

-- a line, and those behind it
behind : (line back more : List ℕ) (front after : List Mark) (first : Bool) → lays (outside first) (lines (line ++ (back ++ more))) ≡ option_map (λ ms. front ++ ms) (lays (outside false) (lines (back ++ more)))
    → lays (outside false) (lines (back ++ more)) ≡ option_map (λ ms. after ++ ms) (lays (outside false) (lines more))
    → lays (outside first) (lines ((line ++ back) ++ more)) ≡ option_map (λ ms. (front ++ after) ++ ms) (lays (outside false) (lines more))
behind line back more front after first here there =
    ap (λ (t : List ℕ). lays (outside first) (lines t)) (append_assoc line back more) ∙ here ∙ ap (option_map (λ ms. front ++ ms)) there ∙ two_maps front after (lays (outside false) (lines more))

-- an item, and a key with its part
abbrev item_text : ℕ → Doc → List ℕ
item_text c d = spaces c ++ (45 ∷ node_text (is_block d) (scalar_text d) (block_text (deeper (spaces c)) d))

abbrev pair_text : ℕ → List ℕ → Doc → List ℕ
pair_text c k d = spaces c ++ (words_text k ++ (58 ∷ node_text (is_block d) (scalar_text d) (block_text (deeper (spaces c)) d)))

key_lays : (c : ℕ) (k : List ℕ) (d : Doc) (more : List ℕ) (first : Bool) → IsHead c (words_text k ++ 58 ∷ []) (Key c k) → IsDoc d → Below (suc (suc c)) (is_block d) d more
    → lays (outside first) (lines (pair_text c k d ++ more))
    ≡ option_map (λ ms. (Key c k ∷ part_marks (suc (suc c)) d) ++ ms) (lays (outside false) (lines more))
key_lays c k d more first h v deep =
    ap (λ (t : List ℕ). lays (outside first) (lines ((spaces c ++ t) ++ more))) (sym (append_assoc (words_text k) (58 ∷ []) (node_text (is_block d) (scalar_text d) (block_text (deeper (spaces c)) d))))
    ∙ part_lays c (words_text k ++ 58 ∷ []) (Key c k) d more first h v deep

-- ---- the lines of a tree come to its marks

mutual
  block_lays : (d : Doc) (c : ℕ) (more : List ℕ) (first : Bool) → IsDoc d → is_block d ≡ true
      → lays (outside first) (lines (block_text (spaces c) d ++ more)) ≡ option_map (λ ms. part_marks c d ++ ms) (lays (outside false) (lines more))
  block_lays null c more first v block = absurd (both_ways false refl block)
  block_lays (boolean b) c more first v block = absurd (both_ways false refl block)
  block_lays (whole z) c more first v block = absurd (both_ways false refl block)
  block_lays (words s) c more first v block = absurd (both_ways false refl block)
  block_lays (list no_docs) c more first v block = absurd (both_ways false refl block)
  block_lays (dict no_pairs) c more first v block = absurd (both_ways false refl block)
  block_lays (list (then_doc d ds)) c more first v block =
      behind (item_text c d) (items_text (spaces c) ds) more (Dash c ∷ part_marks (suc (suc c)) d) (items_marks c ds) first
      (part_lays c (45 ∷ []) (Dash c) d (items_text (spaces c) ds ++ more) first (dash_head c) v.0 (block_lays d (suc (suc c)) (items_text (spaces c) ds ++ more) false v.0))
      (items_lay ds c more v.1)
  block_lays (dict (then_pair k d ps)) c more first v block =
      behind (pair_text c k d) (pairs_text (spaces c) ps) more (Key c k ∷ part_marks (suc (suc c)) d) (pairs_marks c ps) first
      (key_lays c k d (pairs_text (spaces c) ps ++ more) first (key_head c k v.0.0) v.0.1 (block_lays d (suc (suc c)) (pairs_text (spaces c) ps ++ more) false v.0.1))
      (pairs_lay ps c more v.0.2)

  items_lay : (ds : Docs) (c : ℕ) (more : List ℕ) → AreDocs ds → lays (outside false) (lines (items_text (spaces c) ds ++ more)) ≡ option_map (λ ms. items_marks c ds ++ ms) (lays (outside false) (lines more))
  items_lay no_docs c more v = no_marks (lays (outside false) (lines more))
  items_lay (then_doc d ds) c more v =
      behind (item_text c d) (items_text (spaces c) ds) more (Dash c ∷ part_marks (suc (suc c)) d) (items_marks c ds) false
      (part_lays c (45 ∷ []) (Dash c) d (items_text (spaces c) ds ++ more) false (dash_head c) v.0 (block_lays d (suc (suc c)) (items_text (spaces c) ds ++ more) false v.0))
      (items_lay ds c more v.1)

  pairs_lay : (ps : Pairs) (c : ℕ) (more : List ℕ) → ArePairs ps → lays (outside false) (lines (pairs_text (spaces c) ps ++ more)) ≡ option_map (λ ms. pairs_marks c ps ++ ms) (lays (outside false) (lines more))
  pairs_lay no_pairs c more v = no_marks (lays (outside false) (lines more))
  pairs_lay (then_pair k d ps) c more v =
      behind (pair_text c k d) (pairs_text (spaces c) ps) more (Key c k ∷ part_marks (suc (suc c)) d) (pairs_marks c ps) false
      (key_lays c k d (pairs_text (spaces c) ps ++ more) false (key_head c k v.0) v.1 (block_lays d (suc (suc c)) (pairs_text (spaces c) ps ++ more) false v.1))
      (pairs_lay ps c more v.2)

-- ---- the whole

block_spells : (d : Doc) → IsDoc d → depth d ≤ 100 → is_block d ≡ true → Spells (block_text [] d) d
block_spells d v shallow block =
    let found = ap (λ (t : List ℕ). lays (outside true) (lines t)) (sym (append-nil (block_text [] d))) ∙ block_lays d 0 [] true v block ∙ ap Some (append-nil (part_marks 0 d)) in
    (part_marks 0 d, are_lays true (lines (block_text [] d)) (part_marks 0 d) found, block_marks d v block shallow)

scalar_spells : (d : Doc) → IsDoc d → depth d ≤ 100 → is_block d ≡ false → Spells (scalar_text d ++ 10 ∷ []) d
scalar_spells d v shallow no_ =
    let r = scalar_reads d v no_ in
    let starts : Starts (scalar_text d) = record { first = r.first; after = r.after; is = r.is; space = r.space; hash = r.hash; tab = r.tab } in
    let found = text_lays 0 (scalar_text d) [] true [] 0 (Scalar d) starts r.inline (ap is_marker r.is ∙ r.marker) (said_back 0 0 (scalar_text d) d r) refl in
    (Bare d ∷ [], are_lays true (lines (scalar_text d ++ 10 ∷ [])) (Bare d ∷ []) found, alone shallow)

-- the text of a tree that nests at most 100 deep spells that tree
pub spells_written : (d : Doc) → IsDoc d → depth d ≤ 100 → Spells (written d) d
spells_written d v shallow = elim (cases_Bool (is_block d)) [
  | inl block ↦ subst (λ (t : List ℕ). Spells t d) (sym (cond-true (is_block d) (block_text [] d) (scalar_text d ++ 10 ∷ []) block)) (block_spells d v shallow block)
  | inr other ↦ subst (λ (t : List ℕ). Spells t d) (sym (cond-false (is_block d) (block_text [] d) (scalar_text d ++ 10 ∷ []) other)) (scalar_spells d v shallow other)
]

-- a text that is a tree's spells that tree
pub spells_text : (text : List ℕ) (d : Doc) → text ≡ written d → IsDoc d → depth d ≤ 100 → Spells text d
spells_text text d is v shallow = subst (λ (t : List ℕ). Spells t d) (sym is) (spells_written d v shallow)
