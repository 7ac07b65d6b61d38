use Rattle.talks.proofs.TalkLemmas.{Goes-wanted, Halts-want, Parts-then}
use Rattle.knife_core.specs.Table.{prints, run_list_of, node_came}
use Rattle.knife_core.proofs.rows.node_wanted.Goals as goal

pub returns-in-Ok-clause-parts : goal.returns-in-Ok-clause-parts
returns-in-Ok-clause-parts g c =
    let whom = c.args.whom.now in
    let got = c.in-Ok.got in
    let came = node_came whom c.args.node.now c.args.change c.args.item.now in
    Parts-then whom prints (run_list_of whom c.args.node.now c.args.change c.args.item.now c.args.ask) (came got.ask got.body) c.node_changed.result _ _ _
    (Goes-wanted whom c.args.ask came got _ _ c.in-Ok.ensures.wanted)
    c.node_changed.ensures.parts

pub returns-in-Err-clause-parts : goal.returns-in-Err-clause-parts
returns-in-Err-clause-parts g c =
    let whom = c.args.whom.now in
    Halts-want whom c.args.ask (node_came whom c.args.node.now c.args.change c.args.item.now c.args.ask) c.in-Err.halt _ _ c.in-Err.ensures.wanted
