use Rattle.host_tree.specs.Acts.{entry_of, without}
use Rattle.host_acts.specs.Changes.{Becomes, Stands, unlinked}
use Rattle.host_acts.proofs.TellsLemmas.{on_ok_made}
use Rattle.host_acts.proofs.ChangeLemmas.{unlinks}
use Rattle.host_acts.proofs.changes.unlink.Goals as goal

pub returns-in-LinkThere-clause-ok : goal.returns-in-LinkThere-clause-ok
returns-in-LinkThere-clause-ok g c =
    on_ok_made (Stands c.args.path.now c.args.seen.now) (Becomes c.args.path.now (unlinked (entry_of c.args.seen.now))) (without c.args.path.now)
    (λ h stands. unlinks c.args.path.now c.in-LinkThere.to c.args.seen.now h c.in-LinkThere.is stands) _ _ c.remove.result c.requires c.remove.ensures.ok
