use Rattle.host_tree.specs.Acts.{CanSetMode, with_mode}
use Rattle.host_acts.specs.Changes.{SetsDue}
use Rattle.host_acts.proofs.TellsLemmas.{on_ok_made}
use Rattle.host_acts.proofs.ChangeLemmas.{sets_due}
use Rattle.host_acts.proofs.changes.set_mode.Goals as goal

pub returns-in-Some-clause-ok : goal.returns-in-Some-clause-ok
returns-in-Some-clause-ok g c =
    on_ok_made (λ h. CanSetMode h c.args.path.now) (SetsDue c.args.path.now c.args.due) (with_mode c.args.path.now c.in-Some.mode)
    (λ h _. sets_due c.args.path.now c.in-Some.mode c.args.due h c.in-Some.is) _ _ c.set_mode.result c.requires.fits c.set_mode.ensures.ok
