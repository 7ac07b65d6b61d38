use Rattle.std.proofs.Common.{List, ℕ, subst, ap, ◌∙◌}
use Rattle.std.specs.FinMap as finite
use Rattle.host_tree.specs.Image.{LosesBelow, HasNoneBelow}
use Rattle.host_tree.proofs.KeptLemmas.{removed-all}
use Rattle.host_tree.proofs.image.ImageHost.take_all.Goals as goal

pub returns-clause-ok : goal.returns-clause-ok
returns-clause-ok c =
    c.take.ensures ∙ ap (λ (p : List ℕ). finite.remove c.take_below.new.self p) c.as_text.ensures.value
    ∙ removed-all c.args.path.now c.args.self.now c.take_below.new.self
    (subst (λ (p : List ℕ). LosesBelow p c.args.self.now c.take_below.new.self) c.in_ok-ends.ensures c.take_below.ensures.part)
    (subst (λ (p : List ℕ). HasNoneBelow c.take_below.new.self p) c.in_ok-ends.ensures c.in_ok-take_below.ensures.all)
