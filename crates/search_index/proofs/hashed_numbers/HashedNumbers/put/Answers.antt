-- The number stands in the first slot that was free.
use Rattle.search_index.proofs.HashedLemmas.{put_keeps, put_met}
use Rattle.search_index.proofs.hashed_numbers.HashedNumbers.put.Goals as goal

pub returns-then-index-clause-met : goal.returns-then-index-clause-met
returns-then-index-clause-met c = put_met c.loop-step.self c.self-in-loop-step.inside.slots.items c.args.hash c.loop-step.step c.args.number c.place-place.result c.index.result.now c.self-in-loop-step.view_is c.requires c.place-place.ensures.place c.place-place.ensures.within c.index.ensures c.if-index.true c.loop-step.invariant.1

pub returns-then-index-clause-keeps : goal.returns-then-index-clause-keeps
returns-then-index-clause-keeps c = put_keeps c.args.self.now c.loop-step.self c.self-in-loop-step.inside.slots.items c.args.hash c.loop-step.step c.args.number c.place-place.result c.index.result.now c.loop-step.invariant.0 c.self-in-loop-step.view_is c.requires c.place-place.ensures.place c.place-place.ensures.within c.index.ensures c.if-index.true
