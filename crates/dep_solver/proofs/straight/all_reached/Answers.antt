use Rattle.std.proofs.Common.{refl}
use Rattle.dep_solver.proofs.MarkLemmas.{names_all, names_more, names_none}
use Rattle.dep_solver.proofs.straight.all_reached.Goals as goal

pub loop-name-init : goal.loop-name-init
loop-name-init c = names_none c.args.names.now c.new-marks.result.items c.new-marks.ensures.items

pub loop-name-preserved : goal.loop-name-preserved
loop-name-preserved c = names_more c.args.names.now c.loop-name.name-index c.name-item.result c.loop-name.marks.items c.push.new.self.items _ c.loop-name-test.true c.name-item.is refl c.key_of.ensures c.in_ok-push.ensures.items c.loop-name.invariant

pub returns : goal.returns
returns c = names_all c.args.names.now c.loop-name.name-index c.loop-name.marks.items c.loop-name-test.false c.loop-name.invariant
