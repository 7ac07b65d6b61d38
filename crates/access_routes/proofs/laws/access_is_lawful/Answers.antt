use Rattle.access_routes.proofs.AccessLemmas.{access_puts_none}
use Rattle.access_routes.proofs.LawfulLemmas.{access_lawful}
use Rattle.access_routes.proofs.laws.access_is_lawful.Goals as goal

pub returns : goal.returns
returns c = record { lawful = access_lawful; shelfless = access_puts_none }
