use Rattle.std.proofs.Common.{sym}
use Rattle.dep_solver.proofs.ConflictLemmas.{none_says, some_says}
use Rattle.dep_solver.proofs.LoopLemmas.{begun, chose, chose_nearer, failed, found, gave_up, gave_up_nearer}
use Rattle.dep_solver.proofs.search.searched.Goals as goal

pub loop-name-init : goal.loop-name-init
loop-name-init c = (
  begun c.args.universe.now c.args.rules.now c.args.roots.now c.in_ok-search.search c.in_ok-search.ensures,
  c.in_ok-learner.ensures,
)

pub loop-name-preserved-in-Continue-branch-4 : goal.loop-name-preserved-in-Continue-branch-4
loop-name-preserved-in-Continue-branch-4 c = (
  chose c.args.universe.now c.args.rules.now c.args.roots.now c.args.dead.now c.requires c.loop-name.search c.choose.new.self c.in-Some.name.now c.in-Some-next.place
      c.loop-name.invariant.0 (sym c.in-Some.ensures) (some_says _ _ c.in_ok-next.next c.in-Some-next.place c.in-Some-next.is c.in_ok-next.ensures.place) c.in_ok-choose.ensures,
  c.in_ok-next.ensures.keeps,
)

pub loop-name-smaller-in-Continue-branch-4 : goal.loop-name-smaller-in-Continue-branch-4
loop-name-smaller-in-Continue-branch-4 c =
    chose_nearer c.args.universe.now c.args.rules.now c.args.roots.now c.args.dead.now c.requires c.loop-name.search c.choose.new.self c.in-Some.name.now c.in-Some-next.place
    c.loop-name.invariant.0 (sym c.in-Some.ensures) (some_says _ _ c.in_ok-next.next c.in-Some-next.place c.in-Some-next.is c.in_ok-next.ensures.place) c.in_ok-choose.ensures

pub loop-name-preserved : goal.loop-name-preserved
loop-name-preserved c = (
  gave_up c.args.universe.now c.args.rules.now c.args.roots.now c.args.dead.now c.requires c.loop-name.search c.give_up.new.self c.in-Some.name.now
      c.loop-name.invariant.0 (sym c.in-Some.ensures) (none_says _ _ c.in_ok-next.next c.in_default-next.is c.in_ok-next.ensures.place) c.if-not-give_up.ensures,
  c.in_ok-next.ensures.keeps,
)

pub loop-name-smaller : goal.loop-name-smaller
loop-name-smaller c = gave_up_nearer c.args.universe.now c.args.rules.now c.args.roots.now c.loop-name.search c.give_up.new.self c.if-not-give_up.ensures

pub returns-then-not-give_up : goal.returns-then-not-give_up
returns-then-not-give_up c =
    failed c.args.universe.now c.args.rules.now c.args.roots.now c.args.dead.now c.requires c.loop-name.search c.in-Some.name.now
    c.loop-name.invariant.0 (sym c.in-Some.ensures) (none_says _ _ c.in_ok-next.next c.in_default-next.is c.in_ok-next.ensures.place) c.if-not-give_up.ensures

pub returns : goal.returns
returns c = found c.args.universe.now c.args.rules.now c.args.roots.now c.loop-name.search c.loop-name.invariant.0 (sym c.in_default.ensures)
