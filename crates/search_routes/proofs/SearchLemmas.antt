-- Searches change nothing.
use Rattle.std.proofs.Common.{refl}
use Rattle.org_core.specs.Keeping.{IsOrderlyGroup, KeepsConditions, NeverShelves, Someone}
use Rattle.search_routes.specs.declared.operations.SearchOperation.TheVariants as operation
use Rattle.search_routes.specs.SearchRules.{search_rules}

pub searches_keep : KeepsConditions Someone search_rules
searches_keep context route request operation.ListIndexes meets known read lacks free = meets
searches_keep context route request (operation.Find search) meets known read lacks free = meets

pub searches_orderly : IsOrderlyGroup search_rules
searches_orderly context operation.ListIndexes = refl
searches_orderly context (operation.Find search) = refl

pub searches_put_none : NeverShelves search_rules
searches_put_none context operation.ListIndexes = refl
searches_put_none context (operation.Find search) = refl
