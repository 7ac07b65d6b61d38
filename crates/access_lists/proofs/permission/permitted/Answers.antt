use Rattle.std.proofs.Common.{◌∙◌, ◌||◌, sym, ap, option_copied}
use Rattle.access_lists.specs.declared.acl.Acl.{Acl}
use Rattle.access_lists.specs.declared.acl.Entry.{Entry}
use Rattle.access_lists.specs.Acls.{entry_of}
use Rattle.access_lists.specs.Creators.{is_creator}
use Rattle.access_lists.specs.Permitted.{is_permitted}
use Rattle.access_lists.proofs.CreatorsLemmas.{permitted-created}
use Rattle.access_lists.proofs.PermittedLemmas.{permission_decided}
use Rattle.access_lists.proofs.permission.permitted.Goals as goal

pub returns-clause-value : goal.returns-clause-value
returns-clause-value c =
    let membership = c.args.groups.now.membership in
    let caller = c.args.caller.now in
    c.permitted_for.ensures
    ∙ ap (λ (entry : Entry). is_creator (option_copied c.acl.inside.creator) caller || is_permitted membership entry caller) c.entry.ensures
    ∙ permitted-created membership c.args.perm (option_copied c.acl.inside.creator) c.acl.inside.base.now caller
    ∙ ap (λ (acl : Acl). is_permitted membership (entry_of c.args.perm acl) caller) c.acl.view_is

-- what it answers is the truth value
pub returns-clause-set : goal.returns-clause-set
returns-clause-set c =
    let decided = permission_decided c.args.groups.now.membership (entry_of c.args.perm c.args.acl) c.args.caller.now in
    let same = returns-clause-value c in
    (λ is. decided.0 (sym same ∙ is), λ may. same ∙ decided.1 may)
