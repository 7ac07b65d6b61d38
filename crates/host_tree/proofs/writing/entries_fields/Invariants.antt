-- The fields so far are those of the entries so far.
use Rattle.std.proofs.Common.{◌≡◌, ℕ, List, ◌++◌, map}
use Rattle.host_tree.specs.Documents.{doc_pair}
use Rattle.host_tree.specs.declared.entry.Entry.{Entry}
use Rattle.host_tree.proofs.writing.entries_fields.Given as goal

abbrev pub invariant-loop-path : goal.invariant-loop-path
invariant-loop-path l = record {
  done : List (List ℕ × Entry);
  order : l.entries.entries ≡ done ++ l.path-iterator;
  docs : l.fields ≡ map doc_pair done;
}
