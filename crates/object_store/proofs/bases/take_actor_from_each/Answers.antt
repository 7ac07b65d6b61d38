use Rattle.std.proofs.Common.{rules}
use Rattle.access_lists.specs.Acls.{each_entry, without_actor}
use Rattle.access_lists.specs.Forms.{IsAcl}
use Rattle.object_store.proofs.BasesLemmas.{retained, shown-each, changes}
use Rattle.object_store.proofs.bases.take_actor_from_each.Goals as goal

-- every base is kept, with the actor out of each entry
pub returns-clause-changes : goal.returns-clause-changes
returns-clause-changes c =
    let change = each_entry (without_actor c.args.name.now) in
    changes change c.args.bases.now c.retain.new.self (retained _ change IsAcl _ (λ key shown keep left next called. search rules) 0 _ _ c.retain.ensures.retained) c.retain.ensures.capacity

-- and each was seen
pub returns-clause-rising : goal.returns-clause-rising
returns-clause-rising c =
    let change = each_entry (without_actor c.args.name.now) in
    shown-each _ change IsAcl _ (λ key shown keep left next called. search rules) 0 _ _ c.retain.ensures.retained
