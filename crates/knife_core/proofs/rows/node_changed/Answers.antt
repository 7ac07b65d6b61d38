use Rattle.talks.proofs.TalkLemmas.{Goes-step, Halts-step, Parts-then, Steps-halted}
use Rattle.knife_core.specs.Table.{prints, node_came, changed_of}
use Rattle.knife_core.proofs.rows.node_changed.Goals as goal

pub returns-in-Ok-clause-parts : goal.returns-in-Ok-clause-parts
returns-in-Ok-clause-parts g c =
    let whom = c.args.whom.now in
    let next = changed_of in
    Parts-then whom prints (node_came whom c.args.node.now c.args.change c.args.item.now c.args.got.ask c.args.got.body) (next c.in-Ok.ask) c.items_wanted.result _ _ _
    (Goes-step whom (node_came whom c.args.node.now c.args.change c.args.item.now c.args.got.ask c.args.got.body) (next c.in-Ok.ask) _ (c.in-Ok.ensures next))
    c.items_wanted.ensures.parts

pub returns-in-Err-clause-parts : goal.returns-in-Err-clause-parts
returns-in-Err-clause-parts g c =
    let whom = c.args.whom.now in
    let next = changed_of in
    Halts-step whom next (node_came whom c.args.node.now c.args.change c.args.item.now c.args.got.ask c.args.got.body) c.in-Err.halt _ (c.in-Err.ensures next)

pub returns-in-Err-clause-cause : goal.returns-in-Err-clause-cause
returns-in-Err-clause-cause g c =
    let whom = c.args.whom.now in
    let next = changed_of in
    Steps-halted next (node_came whom c.args.node.now c.args.change c.args.item.now c.args.got.ask c.args.got.body) c.in-Err.halt _ (c.in-Err.ensures next)
