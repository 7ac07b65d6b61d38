-- The rules of these groups are lawful.
use Rattle.org_core.proofs.FileConditionsLemmas.{shelfless_keeps}
use Rattle.org_core.specs.Keeping.{Anyone, Someone}
use Rattle.org_core.specs.Lawful.{IsLawful}
use Rattle.org_requests.specs.declared.collections.Collection.{Collection}
use Rattle.object_routes.proofs.KeepingLemmas.{organisations_keep, objects_keep, data_keep}
use Rattle.object_routes.proofs.OrderlyLemmas.{organisations_orderly, objects_orderly, data_orderly}
use Rattle.object_routes.proofs.PlainLemmas.{organisations_never_forbid, objects_never_forbid, data_never_forbid}
use Rattle.object_routes.proofs.ShelflessLemmas.{organisations_put_none, objects_put_none, data_put_none}
use Rattle.object_routes.specs.DataBags.{data_rules}
use Rattle.object_routes.specs.Objects.{objects_rules}
use Rattle.object_routes.specs.Organisations.{organisation_rules}

pub organisations_lawful : IsLawful Anyone organisation_rules
organisations_lawful = record {
  keeps = organisations_keep;
  keeps_files = shelfless_keeps organisation_rules organisations_put_none;
  orderly = organisations_orderly;
  never_forbids = organisations_never_forbid;
}

pub objects_lawful : (collection : Collection) → IsLawful Someone (objects_rules collection)
objects_lawful collection = record {
  keeps = objects_keep collection;
  keeps_files = shelfless_keeps (objects_rules collection) (objects_put_none collection);
  orderly = objects_orderly collection;
  never_forbids = objects_never_forbid collection;
}

pub data_lawful : IsLawful Someone data_rules
data_lawful = record {
  keeps = data_keep;
  keeps_files = shelfless_keeps data_rules data_put_none;
  orderly = data_orderly;
  never_forbids = data_never_forbid;
}
