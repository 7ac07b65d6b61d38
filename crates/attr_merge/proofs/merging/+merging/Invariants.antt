use Rattle.std.proofs.Common.{◌≡◌, ◌*◌, ◌+◌, ◌∷◌, [], List, ℕ, None, option_and_then}
use Rattle.doc_tree.specs.Doc.{pairs_of}
use Rattle.doc_tree.specs.Part.{at, pair_at}
use Rattle.attr_merge.specs.Children.{pieces_depth}
use Rattle.attr_merge.specs.Effective.{IsEffective}
use Rattle.attr_merge.specs.Merged.{origin_at}
use Rattle.attr_merge.specs.Nodes.{leaves_of}
use Rattle.attr_merge.specs.Parts.{pieces_of, gathered_in}
use Rattle.attr_merge.proofs.merging.+merging.Given as goal

abbrev pub decreases-merge_dicts : goal.decreases-merge_dicts
decreases-merge_dicts l = 2 * pieces_depth (pieces_of l.parts.now)

abbrev pub decreases-merge_parts : goal.decreases-merge_parts
decreases-merge_parts l = 2 * pieces_depth (pieces_of l.parts.now) + 1

-- the children so far are merged, and there is nothing at the other keys
abbrev pub invariant-merge_dicts-loop-key : goal.invariant-merge_dicts-loop-key
invariant-merge_dicts-loop-key l = record {
  can_next : (goal.iterator-merge_dicts-loop-key).can_next l.key-iterator;
  is_finite : (goal.iterator-merge_dicts-loop-key).is_finite l.key-iterator;
  root : origin_at [] (leaves_of l.inner.leaves.items) ≡ None;
  below : (key : List ℕ) (path : List (List ℕ)) → IsEffective (gathered_in l.yielded key) path (option_and_then (at path) (pair_at key (pairs_of l.inner.fields))) (origin_at (key ∷ path) (leaves_of l.inner.leaves.items));
}
