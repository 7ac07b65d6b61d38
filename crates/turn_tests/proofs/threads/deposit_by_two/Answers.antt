use Rattle.std.proofs.Common.{◌∙◌, ap}
use Rattle.turn_tests.proofs.PlaceLemmas.{deposited}
use Rattle.turn_tests.proofs.threads.deposit_by_two.Goals as goal

pub returns : goal.returns
returns g c = let ours = c.join-ours.ensures.first in let theirs = c.join-ours.ensures.second in record {
  deposited = deposited c.args.start.sum c.args.first.0 c.args.second.0 c.join-ours.result.0.0.items c.join-ours.result.1.0.items c.close-account.result c.join-ours.result.0.1 c.join-ours.result.1.1 c.join.new.into
      (ours.3 ∙ ap (λ k. k.opened) c.split-theirs.ensures.left ∙ ap (λ k. k.opened) c.in-Ok.ensures.made) ours.4 theirs.4 c.join.ensures.both c.join.ensures.forgets_nothing c.close-account.ensures.closes;
}
