use Rattle.dep_solver.proofs.ChosenLemmas.{is_refusal}
use Rattle.dep_solver.proofs.refusing.unsolvable.Goals as goal

pub returns-clause-refuses : goal.returns-clause-refuses
returns-clause-refuses c =
    is_refusal c.args.universe.now c.args.rules.now c.args.roots.now c.in_ok-no_cookbook.no_cookbook c.in_ok-no_version.no_version
    (record { none = c.requires; no_cookbook_is = c.in_ok-no_cookbook.ensures; no_version_is = c.in_ok-no_version.ensures })
