use Rattle.std.proofs.Common.{ap}
use Rattle.doc_tree.specs.declared.tree.Tree.TheVariants as tree
use Rattle.policy_locks.proofs.WholeLemmas.{whole_made}
use Rattle.policy_locks.proofs.stored.whole_of.Goals as goal

pub returns : goal.returns
returns c =
    ap tree.Dict (whole_made c.args.lock.now.run_list c.args.lock.now.named_run_lists c.args.lock.now.default_attributes c.args.lock.now.override_attributes c.args.lock.now.solution_dependencies c.args.body.now _ _ _
    c.in_ok-made.ensures c.in_ok-put_run_lists.ensures c.in_ok-put_dicts.ensures)
