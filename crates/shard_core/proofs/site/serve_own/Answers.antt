-- The shard that the organisation belongs to is written back, and no other organisation is touched.
use Rattle.std.proofs.Common.{◌≡◌, get_or, ap, subst, sym}
use Rattle.org_core.specs.FullStates.{FullState}
use Rattle.org_machine.specs.Serving.{Looks}
use Rattle.shard_core.specs.Indexing.{no_looks}
use Rattle.shard_core.specs.Shards.{site_states, states_in}
use Rattle.shard_core.specs.declared.shards.Shard.{Shard}
use Rattle.shard_core.proofs.ShardLemmas.{site-read, site-written}
use Rattle.shard_core.proofs.site.serve_own.Goals as goal

pub returns-clause-states : goal.returns-clause-states
returns-clause-states g c =
    let shards = c.args.shards.now in
    let number = c.shard_of-number.result in
    let shard = get_or shards number c.index-shards-number.result in
    site-written shards number shard c.serve.new.self c.args.org.now c.args.request.now c.serve.result
    (rw c.as_bytes.ensures.value at c.shard_of-number.ensures.value) c.shard_of-number.ensures.within
    (ap (λ (s : Shard). get_or shards number s) c.index-shards-number.is) c.requires.of c.serve.ensures.states

-- its looks are those over the state that this shard keeps
pub returns-clause-looks : goal.returns-clause-looks
returns-clause-looks g c =
    let shards = c.args.shards.now in
    let number = c.shard_of-number.result in
    let shard = get_or shards number c.index-shards-number.result in
    let is : site_states shards c.args.org.now ≡ states_in shard c.args.org.now =
    site-read shards number shard c.args.org.now
    (rw c.as_bytes.ensures.value at c.shard_of-number.ensures.value) c.shard_of-number.ensures.within
    (ap (λ (s : Shard). get_or shards number s) c.index-shards-number.is) in
    subst (λ (full : FullState). Looks no_looks c.serve.result c.args.request.now full c.args.steps.now c.serve.new.steps) (sym is) c.serve.ensures.looks
