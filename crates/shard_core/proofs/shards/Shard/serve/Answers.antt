-- The organisation that `get_mut` lent is as the request left it, and each other as before.
use Rattle.std.proofs.Common.{◌≡◌, ◌≢◌, List, ℕ, Some, None, sym, ap, subst, ◌∙◌, rules}
use Rattle.org_core.specs.FullStates.{FullState, MeetsFileConditions, full_in}
use Rattle.org_core.specs.States.{Kept, state_in}
use Rattle.sandboxes.specs.Files.{holding_of, OthersStay}
use Rattle.shard_core.proofs.ShardLemmas.{states-written, stays_there, some_is, each-written, conditions-written, stays-written}
use Rattle.org_machine.specs.Marks.{mark_of}
use Rattle.org_machine.specs.Serving.{Looks}
use Rattle.shard_core.specs.Indexing.{no_looks}
use Rattle.object_finder.specs.Exact.{HoldsExactly, OthersStay as HoldsOthers}
use Rattle.shard_core.specs.Keeping.{held_in}
use Rattle.org_core.specs.States.{objects_of}
use Rattle.shard_core.proofs.IndexLemmas.{exact_of, index-written}
use Rattle.shard_core.specs.Organisations.{kept_at, full_at, state_at}
use Rattle.shard_core.proofs.shards.Shard.serve.Goals as goal

-- the state that is kept under the name is the one that is lent
pub serve-requires-clause-files : goal.serve-requires-clause-files
serve-requires-clause-files g c =
    let was : kept_at c.args.self.now.organisations c.args.org.now ≡ Some c.in-Some.state.now = search rules in
    let named : c.in-Some.state.now.name ≡ c.args.org.now = c.args.self.now.named c.args.org.now c.in-Some.state.now was in
    let is : full_at c.args.self.now.organisations c.args.self.now.files c.args.org.now ≡ full_in c.in-Some.state.now c.args.self.now.files =
    λ i. record { state = state_at (was i); files = holding_of c.args.self.now.files (sym named i) } in
    subst MeetsFileConditions is (c.args.self.now.conditions c.args.org.now)

pub returns-in-Some-clause-states : goal.returns-in-Some-clause-states
returns-in-Some-clause-states g c =
    let was : kept_at c.args.self.now.organisations c.args.org.now ≡ Some c.in-Some.state.now = search rules in
    let named : c.in-Some.state.now.name ≡ c.args.org.now = c.args.self.now.named c.args.org.now c.in-Some.state.now was in
    let left_named : c.serve.new.state.name ≡ c.args.org.now = c.serve.ensures.name ∙ named in
    states-written c.args.self.now.organisations (c.get_mut.follows.lender c.serve.new.state) c.args.self.now.files c.serve.new.files c.args.org.now (Some c.serve.new.state)
    (full_in c.in-Some.state.now c.args.self.now.files) c.args.request.now c.serve.result
    ((c.get_mut.follows.holds c.serve.new.state).3 (search rules)).0
    (subst (λ (name : List ℕ). OthersStay name c.args.self.now.files c.serve.new.files) named c.serve.ensures.others)
    (λ i. record { state = state_at (was i); files = holding_of c.args.self.now.files (sym named i) })
    c.requires
    ((λ i. record { state = state_in c.serve.new.state; files = holding_of c.serve.new.files (sym left_named i) }) ∙ c.serve.ensures.state)

-- what is kept is there as before, and so is the one that was served
pub invariant_of-self-clause-there : goal.invariant_of-self-clause-there
invariant_of-self-clause-there g c =
    let was : kept_at c.args.self.now.organisations c.args.org.now ≡ Some c.in-Some.state.now = search rules in
    let there : state_in c.serve.new.state ≢ None =
    λ gone. stays_there (mark_of c.serve.result) c.args.request.now (full_in c.in-Some.state.now c.args.self.now.files) (c.args.self.now.there c.args.org.now c.in-Some.state.now was)
    (sym (ap (λ (full : FullState). full.state) c.serve.ensures.state) ∙ gone) in
    each-written (λ name kept. state_in kept ≢ None) c.args.self.now.organisations (c.get_mut.follows.lender c.serve.new.state) c.args.org.now (Some c.serve.new.state)
    ((c.get_mut.follows.holds c.serve.new.state).3 (search rules)).0
    (λ kept same. subst (λ (k : Kept). state_in k ≢ None) (some_is c.serve.new.state kept same) there)
    c.args.self.now.there

-- each is kept under its name, and so is the one that was served
pub invariant_of-self-clause-named : goal.invariant_of-self-clause-named
invariant_of-self-clause-named g c =
    let was : kept_at c.args.self.now.organisations c.args.org.now ≡ Some c.in-Some.state.now = search rules in
    let named : c.in-Some.state.now.name ≡ c.args.org.now = c.args.self.now.named c.args.org.now c.in-Some.state.now was in
    let left_named : c.serve.new.state.name ≡ c.args.org.now = c.serve.ensures.name ∙ named in
    each-written (λ name kept. kept.name ≡ name) c.args.self.now.organisations (c.get_mut.follows.lender c.serve.new.state) c.args.org.now (Some c.serve.new.state)
    ((c.get_mut.follows.holds c.serve.new.state).3 (search rules)).0
    (λ kept same. subst (λ (k : Kept). k.name ≡ c.args.org.now) (some_is c.serve.new.state kept same) left_named)
    c.args.self.now.named

-- a refusal leaves each as it was
pub returns-in-Some-clause-stays : goal.returns-in-Some-clause-stays
returns-in-Some-clause-stays g c =
    let was : kept_at c.args.self.now.organisations c.args.org.now ≡ Some c.in-Some.state.now = search rules in
    let named : c.in-Some.state.now.name ≡ c.args.org.now = c.args.self.now.named c.args.org.now c.in-Some.state.now was in
    λ refused. stays-written c.args.self.now.organisations (c.get_mut.follows.lender c.serve.new.state) c.args.self.now.files c.serve.new.files c.args.org.now c.args.request.now c.serve.result
    (full_in c.in-Some.state.now c.args.self.now.files)
    (returns-in-Some-clause-states g c) c.requires
    (λ i. record { state = state_at (was i); files = holding_of c.args.self.now.files (sym named i) })
    (sym c.serve.ensures.state ∙ c.serve.ensures.stays refused)

-- and the files of each meet their conditions
pub invariant_of-self-clause-conditions : goal.invariant_of-self-clause-conditions
invariant_of-self-clause-conditions g c =
    let was : kept_at c.args.self.now.organisations c.args.org.now ≡ Some c.in-Some.state.now = search rules in
    let named : c.in-Some.state.now.name ≡ c.args.org.now = c.args.self.now.named c.args.org.now c.in-Some.state.now was in
    let left_named : c.serve.new.state.name ≡ c.args.org.now = c.serve.ensures.name ∙ named in
    conditions-written c.args.self.now.organisations (c.get_mut.follows.lender c.serve.new.state) c.args.self.now.files c.serve.new.files c.args.org.now c.args.request.now c.serve.result
    (states-written c.args.self.now.organisations (c.get_mut.follows.lender c.serve.new.state) c.args.self.now.files c.serve.new.files c.args.org.now (Some c.serve.new.state)
    (full_in c.in-Some.state.now c.args.self.now.files) c.args.request.now c.serve.result
    ((c.get_mut.follows.holds c.serve.new.state).3 (search rules)).0
    (subst (λ (name : List ℕ). OthersStay name c.args.self.now.files c.serve.new.files) named c.serve.ensures.others)
    (λ i. record { state = state_at (was i); files = holding_of c.args.self.now.files (sym named i) })
    c.requires
    ((λ i. record { state = state_in c.serve.new.state; files = holding_of c.serve.new.files (sym left_named i) }) ∙ c.serve.ensures.state))
    c.requires c.args.self.now.conditions

-- the index is exact for the state that is lent
pub serve-requires-clause-exact : goal.serve-requires-clause-exact
serve-requires-clause-exact g c =
    let was : kept_at c.args.self.now.organisations c.args.org.now ≡ Some c.in-Some.state.now = search rules in
    let named : c.in-Some.state.now.name ≡ c.args.org.now = c.args.self.now.named c.args.org.now c.in-Some.state.now was in
    exact_of (held_in c.args.self.now.index) c.in-Some.state.now.name c.args.org.now (kept_at c.args.self.now.organisations c.args.org.now) (state_in c.in-Some.state.now) named (ap state_at was)
    (c.args.self.now.indexed c.args.org.now)

-- and for each that is kept afterwards
pub invariant_of-self-clause-indexed : goal.invariant_of-self-clause-indexed
invariant_of-self-clause-indexed g c =
    let was : kept_at c.args.self.now.organisations c.args.org.now ≡ Some c.in-Some.state.now = search rules in
    let named : c.in-Some.state.now.name ≡ c.args.org.now = c.args.self.now.named c.args.org.now c.in-Some.state.now was in
    let left_named : c.serve.new.state.name ≡ c.args.org.now = c.serve.ensures.name ∙ named in
    index-written c.args.self.now.organisations (c.get_mut.follows.lender c.serve.new.state) (held_in c.args.self.now.index) (held_in c.serve.new.finder) c.args.org.now (Some c.serve.new.state)
    ((c.get_mut.follows.holds c.serve.new.state).3 (search rules)).0
    (subst (λ (name : List ℕ). HoldsOthers name (held_in c.args.self.now.index) (held_in c.serve.new.finder)) named c.serve.ensures.held_of_others)
    (subst (λ (name : List ℕ). HoldsExactly (held_in c.serve.new.finder) name (objects_of (state_in c.serve.new.state))) left_named c.serve.ensures.exact)
    c.args.self.now.indexed

-- its looks are those of the step over the state that is kept
pub returns-in-Some-clause-looks : goal.returns-in-Some-clause-looks
returns-in-Some-clause-looks g c =
    let was : kept_at c.args.self.now.organisations c.args.org.now ≡ Some c.in-Some.state.now = search rules in
    let named : c.in-Some.state.now.name ≡ c.args.org.now = c.args.self.now.named c.args.org.now c.in-Some.state.now was in
    let is : full_in c.in-Some.state.now c.args.self.now.files ≡ full_at c.args.self.now.organisations c.args.self.now.files c.args.org.now =
    λ i. record { state = state_at (sym was i); files = holding_of c.args.self.now.files (named i) } in
    subst (λ (full : FullState). Looks no_looks c.serve.result c.args.request.now full c.args.steps.now c.serve.new.steps) is c.serve.ensures.looks
