-- Layers that are sorted by their levels can be merged.
use Rattle.std.proofs.Common.{◌≡◌, ℕ, ◌≤◌, Bool, true, false, ◌&&◌, cond, List, [], ◌∷◌, ◌++◌, Option, Some, None, option_map, option_and_then, nat_le, ◌==◌, codes, refl, sym, ap, ◌∙◌, eqb-true, true≢false, arith, append_assoc, append-nil, length, drop, get_or, ◌<◌, ◌+◌}
use Rattle.std.specs.List.{filter_map, flat_map, cons_option}
use Rattle.std.proofs.lemmas.Bool.Decides.{nat_tests}
use Rattle.std.proofs.lemmas.List.{drop_all, drop_more}
use Rattle.doc_tree.specs.Text.{text_of}
use Rattle.doc_tree.proofs.Docs.{doc_of-tree_of}
use Rattle.doc_tree.specs.Doc.{Doc, null, boolean, whole, words, list, dict}
use Rattle.doc_tree.specs.Part.{part_at}
use Rattle.doc_tree.specs.Tree.{doc_of, tree_of}
use Rattle.attr_merge.specs.Layers.{AreLayers, are_from, is_dict}
use Rattle.attr_merge.specs.declared.layers.Layer.{Layer}
use Rattle.attr_merge.specs.Sources.{by_level, dict_of, if_at, layer_at, layer_with, level_of, levels}

-- the layer has this level, and its tree is a dict
record IsOf (level : ℕ) (layer : Layer) : Type 0 where
  level_is : layer.level ≡ level
  tree_is : is_dict (doc_of layer.tree) ≡ true

-- it holds of the layer, if there is one
Of : ℕ → Option Layer → Type 0
Of level None = Unit {0}
Of level (Some layer) = IsOf level layer

-- the tree of an entry is a dict
IsTree : Option Doc → Type 0
IsTree None = Unit {0}
IsTree (Some d) = is_dict d ≡ true

tree_of_entry : (d : Option Doc) → IsTree (option_and_then dict_of d)
unfolding IsTree
tree_of_entry None = tt
tree_of_entry (Some null) = tt
tree_of_entry (Some (boolean b)) = tt
tree_of_entry (Some (whole z)) = tt
tree_of_entry (Some (words s)) = tt
tree_of_entry (Some (list ds)) = tt
tree_of_entry (Some (dict ps)) = refl

made : (level : ℕ) (name : List ℕ) (tree : Option Doc) → IsTree tree → Of level (option_map (λ t. record { level = level; name = name; tree = tree_of t }) tree)
unfolding Of IsTree
made level name None h = tt
made level name (Some t) h = record { level_is = refl; tree_is = ap is_dict (doc_of-tree_of t) ∙ h }

named : (level : ℕ) (tree : Option Doc) (name : Option (List ℕ)) → IsTree tree → Of level (option_and_then (λ n. option_map (λ t. record { level = level; name = n; tree = tree_of t }) tree) name)
unfolding Of
named level tree None h = tt
named level tree (Some name) h = made level name tree h

-- a layer that is given at a level is of the level
levelled : (level : ℕ) (d : Doc) → Of level (layer_with d level)
levelled level d = named level (option_and_then dict_of (part_at (codes "tree") d)) (option_and_then text_of (part_at (codes "name") d)) (tree_of_entry (part_at (codes "tree") d))

picked : (level : ℕ) (layer : Layer) (b : Bool) → (layer.level == level) ≡ b → is_dict (doc_of layer.tree) ≡ true → Of level (cond b (Some layer) None)
unfolding Of
picked level layer true e tree = record { level_is = eqb-true layer.level level e; tree_is = tree }
picked level layer false e tree = tt

pick : (level at : ℕ) (layer : Option Layer) → Of at layer → Of level (option_and_then (if_at level) layer)
unfolding Of
pick level at None h = tt
pick level at (Some layer) h = picked level layer (layer.level == level) refl h.tree_is

at_level : (level : ℕ) (d : Doc) (found : Option ℕ) → Of level (option_and_then (if_at level) (option_and_then (layer_with d) found))
unfolding Of
at_level level d None = tt
at_level level d (Some at) = pick level at (layer_with d at) (levelled at d)

-- ---- levels that don't fall

and_first : (a b : Bool) → (a && b) ≡ true → a ≡ true
and_first true b e = refl
and_first false b e = e

and_second : (a b : Bool) → (a && b) ≡ true → b ≡ true
and_second true b e = e
and_second false b e = absurd (true≢false (sym e))

le_through : (a b c : ℕ) → nat_le a b ≡ true → nat_le b c ≡ true → nat_le a c ≡ true
le_through a b c h k = grind (arith, nat_tests)

le_itself : (a : ℕ) → nat_le a a ≡ true
le_itself a = grind (arith, nat_tests)

-- what may follow a level may follow a lower one
lowered : (low level : ℕ) (layers : List Layer) → nat_le low level ≡ true → are_from level layers ≡ true → are_from low layers ≡ true
lowered low level [] le from = refl
lowered low level (layer ∷ layers) le from =
    let three = and_first (nat_le level layer.level && nat_le layer.level 15 && is_dict (doc_of layer.tree)) (are_from layer.level layers) from in
    let two = and_first (nat_le level layer.level && nat_le layer.level 15) (is_dict (doc_of layer.tree)) three in
    let first = le_through low level layer.level le (and_first (nat_le level layer.level) (nat_le layer.level 15) two) in
    ap (λ b. b && nat_le layer.level 15 && is_dict (doc_of layer.tree) && are_from layer.level layers) (first ∙ sym (and_first (nat_le level layer.level) (nat_le layer.level 15) two)) ∙ from

module _ (level : ℕ) (within : nat_le level 15 ≡ true) (rest : List Layer) (from : are_from level rest ≡ true) where
  one_more : (low : ℕ) (layer : Option Layer) (layers : List Layer) → Of level layer → nat_le low level ≡ true → are_from low (layers ++ rest) ≡ true → are_from level (layers ++ rest) ≡ true
      → are_from low (cons_option layer layers ++ rest) ≡ true
  unfolding Of
  one_more low None layers h le low_rest level_rest = low_rest
  one_more low (Some layer) layers h le low_rest level_rest =
      ap (λ n. nat_le low n && nat_le n 15 && is_dict (doc_of layer.tree) && are_from n (layers ++ rest)) h.level_is
      ∙ ap (λ b. b && nat_le level 15 && is_dict (doc_of layer.tree) && are_from level (layers ++ rest)) le
      ∙ ap (λ b. b && is_dict (doc_of layer.tree) && are_from level (layers ++ rest)) within
      ∙ ap (λ b. b && are_from level (layers ++ rest)) h.tree_is
      ∙ level_rest

  level_first : (low : ℕ) (entries : List Doc) → nat_le low level ≡ true → are_from low (filter_map (layer_at level) entries ++ rest) ≡ true
  level_first low [] le = lowered low level rest le from
  level_first low (d ∷ entries) le =
      one_more low (layer_at level d) (filter_map (layer_at level) entries) (at_level level d (option_and_then level_of (part_at (codes "level") d))) le
      (level_first low entries le) (level_first level entries (le_itself level))

-- levels rise from this one to 15
abbrev rise : ℕ → List ℕ → Bool
rise low [] = true
rise low (level ∷ more) = nat_le low level && (nat_le level 15 && rise level more)

by_levels : (entries : List Doc) (low : ℕ) (some : List ℕ) → rise low some ≡ true → are_from low (flat_map (λ level. filter_map (layer_at level) entries) some) ≡ true
by_levels entries low [] rising = refl
by_levels entries low (level ∷ more) rising =
    let behind = and_second (nat_le low level) (nat_le level 15 && rise level more) rising in
    level_first level (and_first (nat_le level 15) (rise level more) behind) (flat_map (λ level. filter_map (layer_at level) entries) more)
    (by_levels entries level more (and_second (nat_le level 15) (rise level more) behind)) low entries (and_first (nat_le low level) (nat_le level 15 && rise level more) rising)

-- the layers of entries can be merged
pub by_level-AreLayers : (entries : List Doc) → AreLayers (by_level entries)
by_level-AreLayers entries = by_levels entries 1 levels refl

-- ---- level by level

-- one more level was gone through
pub level_more : (entries : List Doc) (some : List ℕ) (i : ℕ) (before after all : List Layer) → i < length some → after ≡ before ++ filter_map (layer_at (get_or some i 0)) entries
    → before ++ flat_map (λ level. filter_map (layer_at level) entries) (drop i some) ≡ all → after ++ flat_map (λ level. filter_map (layer_at level) entries) (drop (i + 1) some) ≡ all
level_more entries some i before after all within put so_far =
    let rest = flat_map (λ level. filter_map (layer_at level) entries) (drop (i + 1) some) in
    ap (λ ls. ls ++ rest) put ∙ append_assoc before (filter_map (layer_at (get_or some i 0)) entries) rest
    ∙ ap (λ ns. before ++ flat_map (λ level. filter_map (layer_at level) entries) ns) (sym (drop_more some i 0 within)) ∙ so_far

-- and at last all
pub levels_done : (entries : List Doc) (some : List ℕ) (i : ℕ) (before all : List Layer) → length some ≤ i
    → before ++ flat_map (λ level. filter_map (layer_at level) entries) (drop i some) ≡ all → before ≡ all
levels_done entries some i before all past so_far =
    sym (append-nil before) ∙ ap (λ ns. before ++ flat_map (λ level. filter_map (layer_at level) entries) ns) (sym (drop_all i some past)) ∙ so_far
