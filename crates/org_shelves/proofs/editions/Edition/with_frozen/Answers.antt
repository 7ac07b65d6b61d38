use Rattle.org_shelves.proofs.FrozenLemmas.{parts_put}
use Rattle.org_shelves.proofs.editions.Edition.with_frozen.Goals as goal

pub invariant_of-result : goal.invariant_of-result
invariant_of-result c =
    parts_put c.self.inside.whole c.in-Dict.fields c.in_ok-frozen_fields-in-Dict.field-0 c.self.inside.needs c.self.inside.frozen c.self.inside.sums c.in-Dict.is c.in_ok-frozen_fields-in-Dict.ensures c.self.invariant
