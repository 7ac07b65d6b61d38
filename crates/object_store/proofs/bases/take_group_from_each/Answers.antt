use Rattle.std.proofs.Common.{rules}
use Rattle.access_lists.specs.declared.acl.Acl.{Acl}
use Rattle.access_lists.specs.Acls.{each_entry, without_group}
use Rattle.object_store.proofs.BasesLemmas.{retained, changes}
use Rattle.object_store.proofs.bases.take_group_from_each.Goals as goal

-- every base is kept, with the group out of each entry
pub returns : goal.returns
returns c =
    let change = each_entry (without_group c.args.name.now) in
    changes change c.args.bases.now c.retain.new.self (retained _ change (λ (acl : Acl). Unit {0}) _ (λ key shown keep left next called. search rules) 0 _ _ c.retain.ensures.retained) c.retain.ensures.capacity
