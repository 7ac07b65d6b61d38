use Rattle.search_routes.proofs.SearchLemmas.{searches_put_none}
use Rattle.search_routes.proofs.LawfulLemmas.{searches_lawful}
use Rattle.search_routes.proofs.laws.searches_are_lawful.Goals as goal

pub returns : goal.returns
returns c = record { lawful = searches_lawful; shelfless = searches_put_none }
