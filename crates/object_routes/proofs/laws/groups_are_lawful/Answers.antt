use Rattle.object_routes.proofs.LawfulLemmas.{organisations_lawful, objects_lawful, data_lawful}
use Rattle.object_routes.proofs.ShelflessLemmas.{organisations_put_none, objects_put_none, data_put_none}
use Rattle.object_routes.proofs.laws.groups_are_lawful.Goals as goal

pub returns : goal.returns
returns c = record { organisations = organisations_lawful; objects = objects_lawful; data_bags = data_lawful; shelfless = (organisations_put_none, objects_put_none, data_put_none) }
