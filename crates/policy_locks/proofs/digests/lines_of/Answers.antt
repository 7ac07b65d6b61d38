use Rattle.policy_locks.proofs.LineLemmas.{lines_made}
use Rattle.policy_locks.proofs.digests.lines_of.Goals as goal

pub returns : goal.returns
returns c =
    lines_made c.args.name.now c.args.run_list.now c.args.lists.now c.args.cookbooks.now c.args.default.now c.args.over.now c.as_text.result.now _ _ _ _ _ _ _
    c.as_text.ensures.value c.new-lines.ensures c.in_ok-push_line.ensures c.in_ok-push_items.ensures c.in_ok-push_lists.ensures c.in_ok-push_cookbooks.ensures c.in_ok-push_dict.ensures c.in_ok-push_dict-2.ensures
