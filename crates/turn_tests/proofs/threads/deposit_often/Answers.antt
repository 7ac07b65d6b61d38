use Rattle.std.proofs.Common.{rules, ◌∙◌, ap}
use Rattle.turn_tests.proofs.PlaceLemmas.{placed_next}
use Rattle.turn_tests.proofs.threads.deposit_often.Goals as goal

pub loop-turns-preserved : goal.loop-turns-preserved
loop-turns-preserved g c = let before = c.loop-turns.invariant in let answer = c.in-Some.ensures.answer in (
  ap (λ k. k.book) answer.after_is ∙ before.0,
  ap (λ k. k.is_out) answer.after_is,
  ap (λ k. k.parts) answer.after_is ∙ before.2,
  ap (λ k. k.opened) answer.after_is ∙ before.3,
  search rules,
  placed_next c.loop-turns.turns c.deposit.new.turns c.args.amount c.in-Some.reply c.loop-turns.replies.items c.push_reserved.new.self.items before.5 answer c.push_reserved.ensures.items,
)
