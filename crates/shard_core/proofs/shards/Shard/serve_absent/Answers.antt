-- Room changes no state, so the first request is served in the state that was.
use Rattle.std.proofs.Common.{ap, subst, ◌∙◌}
use Rattle.org_machine.specs.Serving.{Looks, state_then}
use Rattle.shard_core.specs.Indexing.{no_looks}
use Rattle.shard_core.specs.Shards.{states_in}
use Rattle.shard_core.proofs.shards.Shard.serve_absent.Goals as goal

pub returns-in-Ok-clause-states : goal.returns-in-Ok-clause-states
returns-in-Ok-clause-states g c = λ name. c.serve_new.ensures.states name ∙ ap (state_then name c.args.request.now c.serve_new.result) (c.make_room.ensures.states name)

pub returns-in-Ok-clause-looks : goal.returns-in-Ok-clause-looks
returns-in-Ok-clause-looks g c =
    subst (λ s. Looks no_looks c.serve_new.result c.args.request.now s c.args.steps.now c.serve_new.new.steps)
    (c.make_room.ensures.states c.in-Ok.key ∙ ap (states_in c.args.self.now) c.in-Ok.ensures.key) c.serve_new.ensures.looks
