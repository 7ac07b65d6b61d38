use Rattle.std.proofs.Common.{◌≡◌, subst, arith}
use Rattle.membership.specs.Leading.{at}
use Rattle.membership.proofs.LeadingLemmas.{GoneThrough, GoneThrough-none, GoneThrough-more, GoneThrough-all}
use Rattle.membership.proofs.leading.lead_on.Goals as goal

pub loop-through-init : goal.loop-through-init
loop-through-init c = GoneThrough-none c.args.count (at c.args.count c.args.cells.now)

pub loop-through-preserved : goal.loop-through-preserved
loop-through-preserved c =
    GoneThrough-more c.args.count (at c.args.count c.args.cells.now) c.loop-through.through (at c.args.count c.loop-through.cells) (at c.args.count c.lead_through.new.cells)
    c.loop-through-test.true c.lead_through.ensures c.loop-through.invariant

pub returns : goal.returns
returns c =
    let same : c.loop-through.through ≡ c.args.count = omega (arith, c.loop-through.auto.through-end, c.loop-through-test.false) in
    GoneThrough-all c.args.count (at c.args.count c.args.cells.now) (at c.args.count c.loop-through.cells)
    (subst (λ n. GoneThrough c.args.count (at c.args.count c.args.cells.now) n (at c.args.count c.loop-through.cells)) same c.loop-through.invariant)
