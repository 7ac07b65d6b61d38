-- The rules of searches are lawful.
use Rattle.org_core.proofs.FileConditionsLemmas.{shelfless_keeps}
use Rattle.org_core.specs.Keeping.{Someone}
use Rattle.org_core.specs.Lawful.{IsLawful}
use Rattle.search_routes.proofs.PlainLemmas.{searches_never_forbid}
use Rattle.search_routes.proofs.SearchLemmas.{searches_keep, searches_orderly, searches_put_none}
use Rattle.search_routes.specs.SearchRules.{search_rules}

pub searches_lawful : IsLawful Someone search_rules
searches_lawful = record {
  keeps = searches_keep;
  keeps_files = shelfless_keeps search_rules searches_put_none;
  orderly = searches_orderly;
  never_forbids = searches_never_forbid;
}
