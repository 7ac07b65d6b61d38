-- A fault is told by its field.
use Rattle.org_core.proofs.ManifestsLemmas.{stop_tells}
use Rattle.cookbook_routes.proofs.version_routes.edition_of.Goals as goal

pub returns-in-Err : goal.returns-in-Err
returns-in-Err c = stop_tells c.in-Err.fault c.bad_manifest.result _ c.in-Err.ensures.given c.bad_manifest.ensures
