use Rattle.policy_locks.proofs.MakeLemmas.{made_with}
use Rattle.policy_locks.proofs.making.lock_with.Goals as goal

pub returns : goal.returns
returns c =
    made_with c.args.source.now c.in_ok-own.own c.args.cookbook_locks c.args.solution_dependencies _ _ c.in_ok-own.ensures c.in_ok-revision_id.ensures c.in_ok-whole.ensures
