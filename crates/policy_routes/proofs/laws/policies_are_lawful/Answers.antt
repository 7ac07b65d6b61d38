use Rattle.policy_routes.proofs.LawfulLemmas.{policies_lawful}
use Rattle.policy_routes.proofs.laws.policies_are_lawful.Goals as goal

pub returns : goal.returns
returns c = policies_lawful
