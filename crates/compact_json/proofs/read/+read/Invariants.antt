-- What was read and then what is left are the whole, and what is left begins with what a tree can be.
use Rattle.std.proofs.Common.{◌≡◌, ◌++◌, ◌+◌, ◌*◌, ◌≤◌, length}
use Rattle.std.specs.Map.{keys_of}
use Rattle.doc_tree.specs.Doc.{Pairs, pairs_list}
use Rattle.doc_tree.specs.Valid.{ArePairs, InOrder}
use Rattle.compact_json.specs.Next.{AtDocs, PairsAt}
use Rattle.compact_json.proofs.ReadLemmas.{docs_front, pairs_front}
use Rattle.compact_json.proofs.read.+read.Given as goal

abbrev pub decreases-read_fields : goal.decreases-read_fields
decreases-read_fields l = 2 * length l.reader.now + 1

abbrev pub decreases-read_tree : goal.decreases-read_tree
decreases-read_tree l = 2 * length l.reader.now

abbrev pub decreases-read_trees : goal.decreases-read_trees
decreases-read_trees l = 2 * length l.reader.now + 1

abbrev pub invariant-read_fields-loop-key : goal.invariant-read_fields-loop-key
invariant-read_fields-loop-key l = record {
  left : (ps : Pairs) × ArePairs ps × InOrder (keys_of l.fields ++ keys_of (pairs_list ps)) × PairsAt ps l.reader;
  read : l.initial.reader ≡ pairs_front l.fields ++ l.reader;
  fewer : length l.reader ≤ length l.initial.reader;
}

abbrev pub decreases-read_fields-loop-key : goal.decreases-read_fields-loop-key
decreases-read_fields-loop-key l = length l.reader

abbrev pub invariant-read_trees-loop-alloc : goal.invariant-read_trees-loop-alloc
invariant-read_trees-loop-alloc l = record {
  left : AtDocs l.reader;
  read : l.initial.reader ≡ docs_front l.trees ++ l.reader;
  fewer : length l.reader ≤ length l.initial.reader;
}

abbrev pub decreases-read_trees-loop-alloc : goal.decreases-read_trees-loop-alloc
decreases-read_trees-loop-alloc l = length l.reader
