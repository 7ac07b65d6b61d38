use Rattle.std.proofs.Common.{ℕ, List}
use Rattle.peer_wire.specs.declared.asks.Ask.{Ask}
use Rattle.talks.specs.Endings.{formed}
use Rattle.knife_errands.specs.Printing.{printed}
use Rattle.knife_errands.specs.declared.errands.Step.{Step}
use Rattle.talks.proofs.TalkLemmas.{Goes-wanted, Halts-want, Parts-step, Parts-then}
use Rattle.knife_core.specs.Table.{KnifeTalk, prints, one_of}
use Rattle.knife_core.proofs.rows.one_wanted.Goals as goal

-- what comes when the body of the reply came
abbrev came : Step → Ask → List ℕ → KnifeTalk
came step request body = formed request (printed step body) prints

pub returns-in-Ok-clause-parts : goal.returns-in-Ok-clause-parts
returns-in-Ok-clause-parts g c =
    let got = c.in-Ok.got in
    let step = c.args.step.now in
    Parts-then c.args.whom.now prints (one_of step c.args.ask) (came step got.ask got.body) c.step_printed.result _ _ _
    (Goes-wanted c.args.whom.now c.args.ask (came step) got _ _ c.in-Ok.ensures.wanted)
    (Parts-step c.args.whom.now prints (came step got.ask got.body) c.step_printed.result _ c.step_printed.ensures)

pub returns-in-Err-clause-parts : goal.returns-in-Err-clause-parts
returns-in-Err-clause-parts g c = Halts-want c.args.whom.now c.args.ask (came c.args.step.now c.args.ask) c.in-Err.halt _ _ c.in-Err.ensures.wanted
