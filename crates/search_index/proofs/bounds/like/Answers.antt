-- What the signs stand for begins with their first bytes.
use Rattle.std.proofs.Common.{◌∙◌, ◌++◌, ◌∷◌, [], List, ℕ, sym, ap, subst}
use Rattle.query_text.specs.declared.term.Wanted.TheVariants as wanted
use Rattle.search_index.specs.declared.bounds.Bounds.{Bounds}
use Rattle.search_index.specs.Bounds.{HoldsFront, IsBounded}
use Rattle.search_index.proofs.BoundsLemmas.{bounded_begun, bounded_plain, if_ok}
use Rattle.search_index.proofs.bounds.like.Goals as goal

pub returns-then-is_plain : goal.returns-then-is_plain
returns-then-is_plain c =
    let low = c.deref.ensures.value ∙ c.in_ok-front.ensures in
    let high = c.deref-then-is_plain.ensures.value ∙ c.in_ok-front.ensures in
    if_ok _ (λ (b : Bounds). IsBounded c.args.field.now (wanted.Like c.args.signs.now) b) c.at.result (λ (b : Bounds) h. bounded_plain c.args.field.now c.args.signs.now b (sym c.is_plain.ensures ∙ c.if-is_plain.true) (h.0 ∙ low) h.1 (h.2 ∙ ap (λ (z : List ℕ). z ++ 0 ∷ []) high)) c.at.ensures

pub returns : goal.returns
returns c =
    let front = c.deref-else-is_plain.ensures.value ∙ c.in_ok-front.ensures in
    if_ok _ (λ (b : Bounds). IsBounded c.args.field.now (wanted.Like c.args.signs.now) b) c.begun.result
    (λ (b : Bounds) h. bounded_begun c.args.field.now c.args.signs.now b (subst (λ (z : List ℕ). HoldsFront c.args.field.now z b) front h)) c.begun.ensures
