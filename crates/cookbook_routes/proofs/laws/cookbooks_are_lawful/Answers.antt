use Rattle.cookbook_routes.proofs.LawfulLemmas.{cookbooks_lawful}
use Rattle.cookbook_routes.proofs.laws.cookbooks_are_lawful.Goals as goal

pub returns : goal.returns
returns c = cookbooks_lawful
