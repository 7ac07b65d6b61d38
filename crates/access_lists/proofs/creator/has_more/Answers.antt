use Rattle.std.proofs.Common.{List, ℕ, ◌∙◌, sym, subst}
use Rattle.access_lists.specs.Acls.{with_actor}
use Rattle.access_lists.specs.Creators.{IsSpliced}
use Rattle.access_lists.proofs.CreatorsLemmas.{entries_same, in_order-spliced}
use Rattle.access_lists.proofs.creator.has_more.Goals as goal

-- its actors are those of the other with one put in, and its groups are the same
pub returns-then-is_spliced : goal.returns-then-is_spliced
returns-then-is_spliced c = λ is.
    let ours = c.as_slice.ensures.value in
    let theirs = c.as_slice-2.ensures.value in
    let spliced = subst (λ (texts : List (List ℕ)). IsSpliced texts c.args.other.now.actors c.args.actor.now) ours
    (subst (λ (texts : List (List ℕ)). IsSpliced c.as_slice.result.now texts c.args.actor.now) theirs (c.is_spliced.ensures c.if-is_spliced.true)) in
    entries_same c.args.entry.now (with_actor c.args.actor.now c.args.other.now)
    (in_order-spliced c.args.entry.now.actors c.args.other.now.actors c.args.actor.now c.as_slice.ensures.rising spliced)
    (sym c.as_slice-then-is_spliced.ensures.value ∙ c.same_texts.ensures is ∙ c.as_slice-then-is_spliced-2.ensures.value)
