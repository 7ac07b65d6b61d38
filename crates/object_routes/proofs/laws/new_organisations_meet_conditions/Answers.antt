use Rattle.object_routes.proofs.KeepingLemmas.{new_keeps}
use Rattle.object_routes.proofs.laws.new_organisations_meet_conditions.Goals as goal

pub returns : goal.returns
returns c = new_keeps
