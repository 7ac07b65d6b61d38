-- One more shelf.
use Rattle.cookbook_routes.proofs.UniverseLemmas.{looks_more}
use Rattle.cookbook_routes.proofs.universe_routes.look_at_all.Goals as goal

pub loop-shelf-preserved : goal.loop-shelf-preserved
loop-shelf-preserved g c =
    looks_more c.shelves-shelf-items.result.now c.loop-shelf.shelf-index c.loop-shelf-item.result c.entries.result.now c.loop-shelf.steps _ _ c.loop-shelf-test.true c.loop-shelf-item.is c.entries.ensures.entries c.look_at_each.ensures c.loop-shelf.invariant
