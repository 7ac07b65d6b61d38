use Rattle.resource_core.proofs.GraphLemmas.{none_left, searches_on, search_done}
use Rattle.resource_core.proofs.graph.reached_from.Goals as goal

pub loop-place-preserved : goal.loop-place-preserved
loop-place-preserved c =
    searches_on c.args.nexts.now c.args.start c.loop-place.reached.items c.loop-place.todo.items _ c.in-Some.place _ _ c.loop-place.invariant c.in-Some.ensures.items c.in_ok-step.ensures

pub returns : goal.returns
returns c =
    search_done c.args.nexts.now c.args.start c.loop-place.reached.items c.loop-place.todo.items
    (none_left c.loop-place.todo.items c.pop.new.self.items _ c.in_default.ensures.cases.0 c.in_default.ensures.items c.in_default.ensures.rest) c.loop-place.invariant
