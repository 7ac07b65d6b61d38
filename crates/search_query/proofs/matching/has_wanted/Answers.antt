use Rattle.std.proofs.Common.{◌↔◌, drop, add-one, sym, subst, refl, ℕ}
use Rattle.search_query.specs.Matching.{HasWanted}
use Rattle.search_query.proofs.MeetLemmas.{has_at, has_next}
use Rattle.search_query.proofs.matching.has_wanted.Goals as goal

pub returns-then-is_met : goal.returns-then-is_met
returns-then-is_met c =
    (λ _. c.loop-pair.invariant.0 (has_at c.args.field.now c.args.wanted.now c.args.pairs.now c.loop-pair.pair-index c.pair-item.result c.loop-pair-test.true c.pair-item.is (c.is_met.ensures.0 c.if-is_met.true)), λ _. refl)

pub loop-pair-preserved : goal.loop-pair-preserved
loop-pair-preserved c =
    let next = has_next c.args.field.now c.args.wanted.now c.args.pairs.now c.loop-pair.pair-index c.pair-item.result c.loop-pair-test.true c.pair-item.is
    (λ met. let is = c.is_met.ensures.1 met in let other = c.if-is_met.false in cc) in
    subst (λ (n : ℕ). HasWanted c.args.field.now c.args.wanted.now (drop n c.args.pairs.now) ↔ HasWanted c.args.field.now c.args.wanted.now c.args.pairs.now)
    (sym (add-one c.loop-pair.pair-index))
    (λ has. c.loop-pair.invariant.0 (next.0 has), λ has. next.1 (c.loop-pair.invariant.1 has))
