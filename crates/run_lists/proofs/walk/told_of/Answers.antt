use Rattle.std.proofs.Common.{◌<◌, map, refl, sym, subst}
use Rattle.run_lists.specs.Walk.{State, state_of, level_of, event_of, turned}
use Rattle.run_lists.proofs.WalkLemmas.{Leads, first_leads, at_last, turned_leads, popped_state, none_left}
use Rattle.run_lists.proofs.WorkLemmas.{work, turned_work}
use Rattle.run_lists.proofs.walk.told_of.Goals as goal

pub loop-frame-init : goal.loop-frame-init
loop-frame-init c =
    first_leads c.args.roles.now.entries c.args.env.now c.args.items.now c.new.result.keys c.push.new.self.items c.new-2.result.items c.new-3.result.items (record { role = _; left = c.as_slice.result })
    c.new.ensures.empty c.in_ok-push.ensures.items c.new-2.ensures.items refl c.as_slice.ensures c.new-3.ensures.items

-- a turn leaves less to do
pub loop-frame-smaller : goal.loop-frame-smaller
loop-frame-smaller c =
    let walk = c.loop-frame.walk in
    let popped : State = record { met = walk.met.keys; levels = map level_of c.pop.new.self.items; events = map event_of walk.told.items } in
    let frame = level_of c.in-Some.frame in
    let less = turned_work c.args.env.now c.args.roles.now.entries frame.role frame.left popped in
    let before = subst (λ s. work c.args.env.now c.args.roles.now.entries (turned c.args.roles.now.entries c.args.env.now frame.role frame.left popped) < work c.args.env.now c.args.roles.now.entries s)
    (sym (popped_state walk.met.keys walk.frames.items c.pop.new.self.items walk.told.items c.in-Some.frame c.in-Some.ensures.items)) less in
    subst (λ s. work c.args.env.now c.args.roles.now.entries s < work c.args.env.now c.args.roles.now.entries (state_of walk)) (sym c.in_ok-turn.ensures) before

-- and goes on with the visit
pub loop-frame-preserved : goal.loop-frame-preserved
loop-frame-preserved c =
    let walk = c.loop-frame.walk in
    let popped : State = record { met = walk.met.keys; levels = map level_of c.pop.new.self.items; events = map event_of walk.told.items } in
    let frame = level_of c.in-Some.frame in
    let before = subst (Leads c.args.roles.now.entries c.args.env.now c.args.items.now) (popped_state walk.met.keys walk.frames.items c.pop.new.self.items walk.told.items c.in-Some.frame c.in-Some.ensures.items) c.loop-frame.invariant in
    subst (Leads c.args.roles.now.entries c.args.env.now c.args.items.now) (sym c.in_ok-turn.ensures) (turned_leads c.args.roles.now.entries c.args.env.now c.args.items.now popped frame.role frame.left before)

pub returns : goal.returns
returns c =
    let walk = c.loop-frame.walk in
    at_last c.args.roles.now.entries c.args.env.now c.args.items.now (state_of walk) (none_left walk.frames.items c.pop.new.self.items _ c.in_default.ensures.cases.0 c.in_default.ensures.items c.in_default.ensures.rest) c.loop-frame.invariant
