use Rattle.host_tree.specs.Acts.{entry_of, with_directory}
use Rattle.host_acts.specs.Acts.{or_directory}
use Rattle.host_acts.specs.Changes.{Becomes, Stands}
use Rattle.host_acts.proofs.TellsLemmas.{on_ok_made}
use Rattle.host_acts.proofs.ChangeLemmas.{makes_absent}
use Rattle.host_acts.proofs.changes.make_absent.Goals as goal

pub returns-in-Absent-clause-ok : goal.returns-in-Absent-clause-ok
returns-in-Absent-clause-ok g c =
    on_ok_made (Stands c.args.path.now c.args.seen.now) (Becomes c.args.path.now (or_directory (entry_of c.args.seen.now))) (with_directory c.args.path.now)
    (λ h _. makes_absent c.args.path.now c.args.seen.now h c.in-Absent.is) _ _ c.make_dir.result c.requires c.make_dir.ensures.ok
