use Rattle.talks.proofs.TalkLemmas.{Goes-step, Halts-step, Parts-then, Steps-halted}
use Rattle.knife_core.specs.Table.{prints, one, one_of}
use Rattle.knife_core.proofs.rows.one.Goals as goal

pub returns-in-Ok-clause-parts : goal.returns-in-Ok-clause-parts
returns-in-Ok-clause-parts g c =
    let whom = c.args.whom.now in
    let next = one_of c.args.step.now in
    Parts-then whom prints (one whom c.args.step.now) (next c.in-Ok.ask) c.one_wanted.result _ _ _
    (Goes-step whom (one whom c.args.step.now) (next c.in-Ok.ask) _ (c.in-Ok.ensures next))
    c.one_wanted.ensures.parts

pub returns-in-Err-clause-parts : goal.returns-in-Err-clause-parts
returns-in-Err-clause-parts g c =
    let whom = c.args.whom.now in
    let next = one_of c.args.step.now in
    Halts-step whom next (one whom c.args.step.now) c.in-Err.halt _ (c.in-Err.ensures next)

pub returns-in-Err-clause-cause : goal.returns-in-Err-clause-cause
returns-in-Err-clause-cause g c =
    let whom = c.args.whom.now in
    let next = one_of c.args.step.now in
    Steps-halted next (one whom c.args.step.now) c.in-Err.halt _ (c.in-Err.ensures next)
