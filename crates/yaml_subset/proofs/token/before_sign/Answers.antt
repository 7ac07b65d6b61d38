use Rattle.std.proofs.Common.{ℕ, take, ap, ◌∙◌}
use Rattle.yaml_subset.proofs.SignsLemmas.{take_before}
use Rattle.yaml_subset.proofs.token.before_sign.Goals as goal

pub returns : goal.returns
returns c = ap (λ (n : ℕ). take n c.args.text.now) c.sign_place.ensures.value ∙ take_before c.args.text.now
