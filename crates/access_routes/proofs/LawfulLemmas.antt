-- The rules of groups, users, containers and access lists are lawful.
use Rattle.org_core.proofs.FileConditionsLemmas.{shelfless_keeps}
use Rattle.org_core.specs.Keeping.{Someone}
use Rattle.org_core.specs.Lawful.{IsLawful}
use Rattle.access_routes.proofs.AccessLemmas.{access_keep, access_orderly, access_puts_none}
use Rattle.access_routes.proofs.PlainLemmas.{access_never_forbids}
use Rattle.access_routes.specs.AccessRules.{access_rules}

pub access_lawful : IsLawful Someone access_rules
access_lawful = record {
  keeps = access_keep;
  keeps_files = shelfless_keeps access_rules access_puts_none;
  orderly = access_orderly;
  never_forbids = access_never_forbids;
}
