-- What is at the rest of the path from here is what is at the path.
use Rattle.std.proofs.Common.{◌≡◌, ◌≤◌, length, drop}
use Rattle.doc_tree.specs.Part.{at}
use Rattle.compact_json.specs.Compact.{first_doc}
use Rattle.compact_json.specs.Next.{AtDoc}
use Rattle.compact_json.proofs.find.goes_to.Given as goal

abbrev pub invariant-loop-key : goal.invariant-loop-key
invariant-loop-key l = record {
  here : AtDoc l.reader;
  part : at (drop l.key-index l.path) (first_doc l.reader) ≡ at l.path (first_doc l.initial.reader);
  fewer : length l.reader ≤ l.depth;
}
