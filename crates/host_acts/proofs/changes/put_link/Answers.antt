use Rattle.std.proofs.Common.{Some}
use Rattle.host_tree.specs.Acts.{entry_of, with_link}
use Rattle.host_tree.specs.declared.entry.Entry.TheVariants.{Link}
use Rattle.host_acts.specs.Changes.{Becomes, Stands, unlinked}
use Rattle.host_acts.proofs.TellsLemmas.{on_ok_then_made}
use Rattle.host_acts.proofs.ChangeLemmas.{relinks}
use Rattle.host_acts.proofs.changes.put_link.Goals as goal

pub returns-clause-ok : goal.returns-clause-ok
returns-clause-ok g c =
    on_ok_then_made (Stands c.args.path.now c.args.seen.now) (Becomes c.args.path.now (unlinked (entry_of c.args.seen.now))) (Becomes c.args.path.now (Some (Link c.args.to.now))) (with_link c.args.path.now c.args.to.now)
    (λ h m _ first. relinks c.args.path.now c.args.to.now (unlinked (entry_of c.args.seen.now)) h m first) _ _ _ c.make_link.result c.requires.stands c.in_ok-unlink.ensures.ok c.make_link.ensures.ok
