-- The rules of artifacts, policies and policy groups are lawful.
use Rattle.org_core.specs.Keeping.{Someone}
use Rattle.org_core.specs.Lawful.{IsLawful}
use Rattle.policy_routes.proofs.FileKeepingLemmas.{policies_keep_files}
use Rattle.policy_routes.proofs.KeepingLemmas.{policies_keep}
use Rattle.policy_routes.proofs.OrderlyLemmas.{policies_orderly}
use Rattle.policy_routes.proofs.PlainLemmas.{policies_never_forbid}
use Rattle.policy_routes.specs.PolicyRules.{policy_rules}

pub policies_lawful : IsLawful Someone policy_rules
policies_lawful = record {
  keeps = policies_keep;
  keeps_files = policies_keep_files;
  orderly = policies_orderly;
  never_forbids = policies_never_forbid;
}
