use Rattle.std.proofs.Common.{◌∙◌, sym, ap, subst, ℕ, List}
use Rattle.membership.specs.TextSets.{lists, IsRising}
use Rattle.membership.proofs.SearchLemmas.{searched}
use Rattle.membership.proofs.text_set.TextSet.contains.Goals as goal

pub returns : goal.returns
returns c =
    c.is_ok.ensures.value
    ∙ searched c.deref.result.now c.args.text.now c.binary_search.result (subst IsRising (sym c.deref.ensures.value) c.self.invariant) c.binary_search.ensures.bound c.binary_search.ensures.position
    ∙ ap (λ (texts : List (List ℕ)). lists texts c.args.text.now) (c.deref.ensures.value ∙ c.self.view_is)
