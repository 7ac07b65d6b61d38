use Rattle.std.proofs.Common.{◌∙◌, sym, ap, subst}
use Rattle.sandboxes.specs.Sums.{Sums, lists, IsRising}
use Rattle.sandboxes.proofs.SearchLemmas.{searched}
use Rattle.sandboxes.proofs.sums.Sums.contains.Goals as goal

pub returns : goal.returns
returns c =
    c.is_ok.ensures.value
    ∙ searched c.deref.result.now c.args.sum.now c.binary_search.result (subst IsRising (sym c.deref.ensures.value) c.self.invariant) c.binary_search.ensures.bound c.binary_search.ensures.position
    ∙ ap (λ (sums : Sums). lists sums c.args.sum.now) (c.deref.ensures.value ∙ c.self.view_is)
