-- What the request left of the organisation is kept under its name, if it is there.
use Rattle.std.proofs.Common.{◌≡◌, ◌≢◌, List, ℕ, None, refl, sym, ap, subst, ◌∙◌}
use Rattle.org_core.specs.FullStates.{FullState, MeetsFileConditions, full_in}
use Rattle.org_machine.specs.Serving.{Looks}
use Rattle.shard_core.specs.Indexing.{no_looks}
use Rattle.org_core.specs.States.{state_in}
use Rattle.org_machine.specs.Marks.{mark_of, after}
use Rattle.sandboxes.specs.Files.{holding_of, OthersStay}
use Rattle.object_finder.specs.Exact.{OthersStay as HoldsOthers}
use Rattle.shard_core.specs.Keeping.{held_in}
use Rattle.shard_core.proofs.IndexLemmas.{exact_at, exact_of, index-written}
use Rattle.shard_core.specs.Organisations.{kept_at, state_at, full_at, full_of, kept_if_there}
use Rattle.shard_core.proofs.ShardLemmas.{states-written, state-if_there, there-if_there, named-if_there, each-written, conditions-written}
use Rattle.shard_core.proofs.shards.Shard.serve_new.Goals as goal

-- nothing was kept of it
pub serve-reply-requires-clause-files : goal.serve-reply-requires-clause-files
serve-reply-requires-clause-files g c =
    let was : full_at c.args.self.now.organisations c.args.self.now.files c.args.key ≡ full_in c.args.state c.args.self.now.files =
    λ i. record { state = (ap state_at c.requires.absent ∙ sym c.requires.none) i; files = holding_of c.args.self.now.files (sym c.requires.name i) } in
    subst MeetsFileConditions was (c.args.self.now.conditions c.args.key)

pub returns-clause-states : goal.returns-clause-states
returns-clause-states g c =
    let left = c.serve-reply.new.state in
    let files = c.serve-reply.new.files in
    let named : left.name ≡ c.args.key = c.serve-reply.ensures.name ∙ c.requires.name in
    let was : full_in c.args.state c.args.self.now.files ≡ full_at c.args.self.now.organisations c.args.self.now.files c.args.key =
    λ i. record { state = (c.requires.none ∙ sym (ap state_at c.requires.absent)) i; files = holding_of c.args.self.now.files (c.requires.name i) } in
    let is : full_of (kept_if_there left) (holding_of files c.args.key) ≡ full_in left files =
    λ i. record { state = state-if_there left i; files = holding_of files (sym named i) } in
    states-written c.args.self.now.organisations c.keep_if_there.new.organisations c.args.self.now.files files c.args.key (kept_if_there left)
    (full_at c.args.self.now.organisations c.args.self.now.files c.args.key) c.args.request.now c.serve-reply.result
    c.keep_if_there.ensures
    (subst (λ (name : List ℕ). OthersStay name c.args.self.now.files files) c.requires.name c.serve-reply.ensures.others)
    refl c.requires.of
    (is ∙ c.serve-reply.ensures.state ∙ ap (after (mark_of c.serve-reply.result) c.args.request.now) was)

pub invariant_of-self-clause-there : goal.invariant_of-self-clause-there
invariant_of-self-clause-there g c =
    each-written (λ name kept. state_in kept ≢ None) c.args.self.now.organisations c.keep_if_there.new.organisations c.args.key (kept_if_there c.serve-reply.new.state)
    c.keep_if_there.ensures (there-if_there c.serve-reply.new.state) c.args.self.now.there

pub invariant_of-self-clause-named : goal.invariant_of-self-clause-named
invariant_of-self-clause-named g c =
    each-written (λ name kept. kept.name ≡ name) c.args.self.now.organisations c.keep_if_there.new.organisations c.args.key (kept_if_there c.serve-reply.new.state)
    c.keep_if_there.ensures (named-if_there c.serve-reply.new.state c.args.key (c.serve-reply.ensures.name ∙ c.requires.name)) c.args.self.now.named

pub invariant_of-self-clause-conditions : goal.invariant_of-self-clause-conditions
invariant_of-self-clause-conditions g c =
    let left = c.serve-reply.new.state in
    let files = c.serve-reply.new.files in
    let named : left.name ≡ c.args.key = c.serve-reply.ensures.name ∙ c.requires.name in
    let was : full_in c.args.state c.args.self.now.files ≡ full_at c.args.self.now.organisations c.args.self.now.files c.args.key =
    λ i. record { state = (c.requires.none ∙ sym (ap state_at c.requires.absent)) i; files = holding_of c.args.self.now.files (c.requires.name i) } in
    let is : full_of (kept_if_there left) (holding_of files c.args.key) ≡ full_in left files =
    λ i. record { state = state-if_there left i; files = holding_of files (sym named i) } in
    conditions-written c.args.self.now.organisations c.keep_if_there.new.organisations c.args.self.now.files files c.args.key c.args.request.now c.serve-reply.result
    (states-written c.args.self.now.organisations c.keep_if_there.new.organisations c.args.self.now.files files c.args.key (kept_if_there left)
    (full_at c.args.self.now.organisations c.args.self.now.files c.args.key) c.args.request.now c.serve-reply.result
    c.keep_if_there.ensures
    (subst (λ (name : List ℕ). OthersStay name c.args.self.now.files files) c.requires.name c.serve-reply.ensures.others)
    refl c.requires.of
    (is ∙ c.serve-reply.ensures.state ∙ ap (after (mark_of c.serve-reply.result) c.args.request.now) was))
    c.requires.of c.args.self.now.conditions

-- nothing is held of it
pub serve-reply-requires-clause-exact : goal.serve-reply-requires-clause-exact
serve-reply-requires-clause-exact g c =
    exact_of (held_in c.args.self.now.index) c.args.state.name c.args.key (kept_at c.args.self.now.organisations c.args.key) (state_in c.args.state) c.requires.name
    (ap state_at c.requires.absent ∙ sym c.requires.none) (c.args.self.now.indexed c.args.key)

pub invariant_of-self-clause-indexed : goal.invariant_of-self-clause-indexed
invariant_of-self-clause-indexed g c =
    let left = c.serve-reply.new.state in
    let held = held_in c.serve-reply.new.finder in
    index-written c.args.self.now.organisations c.keep_if_there.new.organisations (held_in c.args.self.now.index) held c.args.key (kept_if_there left)
    c.keep_if_there.ensures
    (subst (λ (name : List ℕ). HoldsOthers name (held_in c.args.self.now.index) held) c.requires.name c.serve-reply.ensures.held_of_others)
    (exact_at held left.name c.args.key (kept_if_there left) (state_in left) (c.serve-reply.ensures.name ∙ c.requires.name) (state-if_there left) c.serve-reply.ensures.exact)
    c.args.self.now.indexed

pub returns-clause-looks : goal.returns-clause-looks
returns-clause-looks g c =
    let was : full_in c.args.state c.args.self.now.files ≡ full_at c.args.self.now.organisations c.args.self.now.files c.args.key =
    λ i. record { state = (c.requires.none ∙ sym (ap state_at c.requires.absent)) i; files = holding_of c.args.self.now.files (c.requires.name i) } in
    subst (λ (full : FullState). Looks no_looks c.serve-reply.result c.args.request.now full c.args.steps.now c.serve-reply.new.steps) was c.serve-reply.ensures.looks
