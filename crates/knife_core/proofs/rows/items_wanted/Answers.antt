use Rattle.std.proofs.Common.{ℕ, List}
use Rattle.peer_wire.specs.declared.asks.Ask.{Ask}
use Rattle.talks.specs.Endings.{formed}
use Rattle.knife_errands.specs.RunLists.{printed_items}
use Rattle.talks.proofs.TalkLemmas.{Goes-wanted, Halts-want, Parts-step, Parts-then}
use Rattle.knife_core.specs.Table.{KnifeTalk, prints, changed_of}
use Rattle.knife_core.proofs.rows.items_wanted.Goals as goal

-- what comes when the body of the reply came
abbrev came : Ask → List ℕ → KnifeTalk
came request body = formed request (printed_items body) prints

pub returns-in-Ok-clause-parts : goal.returns-in-Ok-clause-parts
returns-in-Ok-clause-parts g c =
    let got = c.in-Ok.got in
    Parts-then c.args.whom.now prints (changed_of c.args.ask) (came got.ask got.body) c.items_printed.result _ _ _
    (Goes-wanted c.args.whom.now c.args.ask came got _ _ c.in-Ok.ensures.wanted)
    (Parts-step c.args.whom.now prints (came got.ask got.body) c.items_printed.result _ c.items_printed.ensures)

pub returns-in-Err-clause-parts : goal.returns-in-Err-clause-parts
returns-in-Err-clause-parts g c = Halts-want c.args.whom.now c.args.ask (came c.args.ask) c.in-Err.halt _ _ c.in-Err.ensures.wanted
