use Rattle.std.proofs.Common.{◌≡◌, sym, subst, ◌+◌, arith}
use Rattle.membership.proofs.LeadingLemmas.{Passed, Passed-none, Passed-led, Passed-by, Passed-all}
use Rattle.membership.proofs.leading.lead_through.Goals as goal
use Rattle.membership.proofs.leading.lead_through.Goals.{then-cells-from, else-cells-from}

pub loop-from-init : goal.loop-from-init
loop-from-init c = Passed-none c.args.count c.args.cells.now c.args.through

pub loop-from-preserved : goal.loop-from-preserved
loop-from-preserved c =
    elim c.if-cells-from.branch [
      | then-cells-from w ↦
          subst (Passed c.args.count c.args.cells.now c.args.through (c.loop-from.from + 1)) (sym w.cells-is)
          (Passed-led c.args.count c.args.cells.now c.args.through c.loop-from.from c.loop-from.cells c.requires.within c.loop-from-test.true c.loop-from.invariant
          w.lead_from.new.cells w.if-cells-from.true w.lead_from.ensures)
      | else-cells-from w ↦
          subst (Passed c.args.count c.args.cells.now c.args.through (c.loop-from.from + 1)) (sym w.cells-is)
          (Passed-by c.args.count c.args.cells.now c.args.through c.loop-from.from c.loop-from.cells c.requires.within c.loop-from-test.true c.loop-from.invariant
          w.if-cells-from.false)
    ]

pub returns : goal.returns
returns c =
    let same : c.loop-from.from ≡ c.args.count = omega (arith, c.loop-from.auto.from-end, c.loop-from-test.false) in
    Passed-all c.args.count c.args.cells.now c.args.through c.loop-from.cells (subst (λ n. Passed c.args.count c.args.cells.now c.args.through n c.loop-from.cells) same c.loop-from.invariant)
