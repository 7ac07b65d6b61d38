-- Where what was next is what a tree can be, what was taken and then what is left are the whole, and what is left goes on so.
use Rattle.std.proofs.Common.{◌+◌, ◌*◌, ◌≤◌, length}
use Rattle.compact_json.specs.Next.{AtDict, AtDocs}
use Rattle.row_reading.proofs.TokenLemmas.{DocsSoFar, PairsSoFar}
use Rattle.row_reading.proofs.tokens.+take.Given as goal

abbrev pub decreases-take_fields : goal.decreases-take_fields
decreases-take_fields l = 2 * length l.reader.now + 1

abbrev pub decreases-take_tree : goal.decreases-take_tree
decreases-take_tree l = 2 * length l.reader.now

abbrev pub decreases-take_trees : goal.decreases-take_trees
decreases-take_trees l = 2 * length l.reader.now + 1

abbrev pub invariant-take_fields-loop-key : goal.invariant-take_fields-loop-key
invariant-take_fields-loop-key l = record {
  so_far : AtDict l.initial.reader → PairsSoFar l.initial.reader l.fields l.reader;
  fewer : length l.reader ≤ length l.initial.reader;
}

abbrev pub decreases-take_fields-loop-key : goal.decreases-take_fields-loop-key
decreases-take_fields-loop-key l = length l.reader

abbrev pub invariant-take_trees-loop-alloc : goal.invariant-take_trees-loop-alloc
invariant-take_trees-loop-alloc l = record {
  so_far : AtDocs l.initial.reader → DocsSoFar l.initial.reader l.trees l.reader;
  fewer : length l.reader ≤ length l.initial.reader;
}

abbrev pub decreases-take_trees-loop-alloc : goal.decreases-take_trees-loop-alloc
decreases-take_trees-loop-alloc l = length l.reader
