-- The rules of cookbooks, sandboxes and files are lawful.
use Rattle.org_core.specs.Keeping.{Someone}
use Rattle.org_core.specs.Lawful.{IsLawful}
use Rattle.cookbook_routes.proofs.FileKeepingLemmas.{cookbooks_keep_files}
use Rattle.cookbook_routes.proofs.KeepingLemmas.{cookbooks_keep}
use Rattle.cookbook_routes.proofs.OrderlyLemmas.{cookbooks_orderly}
use Rattle.cookbook_routes.proofs.PlainLemmas.{cookbooks_never_forbid}
use Rattle.cookbook_routes.specs.CookbookRules.{cookbook_rules}

pub cookbooks_lawful : IsLawful Someone cookbook_rules
cookbooks_lawful = record {
  keeps = cookbooks_keep;
  keeps_files = cookbooks_keep_files;
  orderly = cookbooks_orderly;
  never_forbids = cookbooks_never_forbid;
}
