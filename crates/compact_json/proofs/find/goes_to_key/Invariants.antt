-- What the pairs that are left have at the key is what the document has there.
use Rattle.std.proofs.Common.{◌≡◌, ◌≤◌, length}
use Rattle.doc_tree.specs.Doc.{Pairs}
use Rattle.doc_tree.specs.Part.{pair_at, part_at}
use Rattle.doc_tree.specs.Valid.{ArePairs}
use Rattle.compact_json.specs.Compact.{first_doc}
use Rattle.compact_json.specs.Next.{PairsAt}
use Rattle.compact_json.proofs.find.goes_to_key.Given as goal

abbrev pub invariant-loop-found : goal.invariant-loop-found
invariant-loop-found l = record {
  left : (ps : Pairs) × ArePairs ps × (pair_at l.key ps ≡ part_at l.key (first_doc l.fn.reader)) × PairsAt ps l.reader;
  fewer : length l.reader ≤ length l.fn.reader;
}

abbrev pub decreases-loop-found : goal.decreases-loop-found
decreases-loop-found l = length l.reader
