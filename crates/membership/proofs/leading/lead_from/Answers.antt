use Rattle.std.proofs.Common.{sym, subst, ◌∙◌, ◌+◌}
use Rattle.membership.proofs.LeadingLemmas.{Led, Led-written, Led-passed}
use Rattle.membership.proofs.leading.lead_from.Goals as goal
use Rattle.membership.proofs.leading.lead_from.Goals.{then-cells-through, else-cells-through}

-- one more place along the row
pub loop-to-preserved : goal.loop-to-preserved
loop-to-preserved c =
    let square = c.loop-to.auto.cells ∙ c.requires.square in
    elim c.if-cells-through.branch [
      | then-cells-through w ↦
          subst (Led c.args.count c.args.cells.now c.args.from c.args.through (c.loop-to.to + 1)) (sym w.cells-is)
          (Led-written c.args.count c.args.cells.now c.args.from c.args.through c.loop-to.to c.loop-to.cells square c.requires.from_within c.requires.through_within c.loop-to-test.true c.loop-to.invariant
          w.if-cells-through.true)
      | else-cells-through w ↦
          subst (Led c.args.count c.args.cells.now c.args.from c.args.through (c.loop-to.to + 1)) (sym w.cells-is)
          (Led-passed c.args.count c.args.cells.now c.args.from c.args.through c.loop-to.to c.loop-to.cells square c.requires.from_within c.requires.through_within c.loop-to-test.true c.loop-to.invariant
          w.if-cells-through.false)
    ]
