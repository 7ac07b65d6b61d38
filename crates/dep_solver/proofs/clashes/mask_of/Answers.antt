use Rattle.std.proofs.Common.{List, Contains, subst, sym}
use Rattle.version_rules.specs.declared.needs.Need.{Need}
use Rattle.dep_solver.proofs.ClashLemmas.{full_mask, met_mask}
use Rattle.dep_solver.proofs.EachLemmas.{read_inside}
use Rattle.dep_solver.proofs.WalkLemmas.{name_from_same}
use Rattle.dep_solver.proofs.clashes.mask_of.Goals as goal

pub returns-then-eq : goal.returns-then-eq
returns-then-eq c =
    met_mask c.args.universe.now c.args.other c.in-Some.cookbook.now c.args.release.now c.need-item.result c.met_values.result (sym c.in-Some.ensures)
    (subst (λ (ns : List Need). Contains ns c.need-item.result) c.as_slice-need-items.ensures (read_inside c.as_slice-need-items.result.now c.loop-need.need-index c.need-item.result c.loop-need-test.true c.need-item.is))
    (name_from_same c.need-item.result.name c.in-Some.cookbook.now.name (sym c.if-eq.ensures)) c.met_values.ensures

pub returns : goal.returns
returns c = full_mask c.args.universe.now c.args.other c.args.release.now
