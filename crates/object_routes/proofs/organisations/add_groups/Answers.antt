use Rattle.object_routes.proofs.AppendLemmas.{two_and_two}
use Rattle.object_routes.proofs.organisations.add_groups.Goals as goal

pub returns : goal.returns
returns c = two_and_two c.add_two_groups-2.result c.args.moves.now c.add_two_groups.new.moves c.add_two_groups-2.new.moves _ _ _ _ c.in_ok-add_two_groups.ensures c.add_two_groups-2.ensures
