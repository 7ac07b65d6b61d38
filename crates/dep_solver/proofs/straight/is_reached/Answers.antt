use Rattle.std.proofs.Common.{◌≡◌, false, sym, ◌∙◌}
use Rattle.dep_solver.specs.declared.straight.Reached.{Reached}
use Rattle.dep_solver.specs.Names.{same_name}
use Rattle.dep_solver.proofs.EachLemmas.{each_all, each_more, read_inside}
use Rattle.dep_solver.proofs.ListLemmas.{nowhere}
use Rattle.dep_solver.proofs.MarkLemmas.{any_off, any_on}
use Rattle.dep_solver.proofs.straight.is_reached.Goals as goal

pub loop-mark-init : goal.loop-mark-init
loop-mark-init c = λ x h. absurd (nowhere x h)

pub has_name-requires-clause-mark : goal.has_name-requires-clause-mark
has_name-requires-clause-mark c = c.requires.marks c.mark-item.result (read_inside c.args.marks.now c.loop-mark.mark-index c.mark-item.result c.loop-mark-test.true c.mark-item.is)

pub loop-mark-preserved : goal.loop-mark-preserved
loop-mark-preserved c =
    each_more (λ (mark : Reached). same_name c.args.name.now mark.name.now ≡ false) c.args.marks.now c.loop-mark.mark-index c.mark-item.result
    c.loop-mark-test.true c.mark-item.is c.loop-mark.invariant (sym c.has_name.ensures ∙ c.if-has_name.false)

pub returns-then-has_name : goal.returns-then-has_name
returns-then-has_name c =
    sym (any_on (λ (mark : Reached). same_name c.args.name.now mark.name.now) c.args.marks.now c.mark-item.result (read_inside c.args.marks.now c.loop-mark.mark-index c.mark-item.result c.loop-mark-test.true c.mark-item.is)
    (sym c.has_name.ensures ∙ c.if-has_name.true))

pub returns : goal.returns
returns c =
    sym (any_off (λ (mark : Reached). same_name c.args.name.now mark.name.now) c.args.marks.now
    (each_all (λ (mark : Reached). same_name c.args.name.now mark.name.now ≡ false) c.args.marks.now c.loop-mark.mark-index c.loop-mark-test.false c.loop-mark.invariant))
