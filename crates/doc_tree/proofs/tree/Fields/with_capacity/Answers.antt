-- No keys are in order.
use Rattle.std.proofs.Common.{rules}
use Rattle.doc_tree.proofs.Entries.{InOrder-none}
use Rattle.doc_tree.proofs.tree.Fields.with_capacity.Goals as goal

pub invariant_of-result : goal.invariant_of-result
invariant_of-result c = search (rules, InOrder-none)
