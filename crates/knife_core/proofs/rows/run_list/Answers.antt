use Rattle.talks.proofs.TalkLemmas.{Goes-step, Halts-step, Parts-then, Steps-halted}
use Rattle.knife_core.specs.Table.{prints, run_list, run_list_of}
use Rattle.knife_core.proofs.rows.run_list.Goals as goal

pub returns-in-Ok-clause-parts : goal.returns-in-Ok-clause-parts
returns-in-Ok-clause-parts g c =
    let whom = c.args.whom.now in
    let next = run_list_of whom c.args.node.now c.args.change c.args.item.now in
    Parts-then whom prints (run_list whom c.args.node.now c.args.change c.args.item.now) (next c.in-Ok.ask) c.node_wanted.result _ _ _
    (Goes-step whom (run_list whom c.args.node.now c.args.change c.args.item.now) (next c.in-Ok.ask) _ (c.in-Ok.ensures next))
    c.node_wanted.ensures.parts

pub returns-in-Err-clause-parts : goal.returns-in-Err-clause-parts
returns-in-Err-clause-parts g c =
    let whom = c.args.whom.now in
    let next = run_list_of whom c.args.node.now c.args.change c.args.item.now in
    Halts-step whom next (run_list whom c.args.node.now c.args.change c.args.item.now) c.in-Err.halt _ (c.in-Err.ensures next)

pub returns-in-Err-clause-cause : goal.returns-in-Err-clause-cause
returns-in-Err-clause-cause g c =
    let whom = c.args.whom.now in
    let next = run_list_of whom c.args.node.now c.args.change c.args.item.now in
    Steps-halted next (run_list whom c.args.node.now c.args.change c.args.item.now) c.in-Err.halt _ (c.in-Err.ensures next)
