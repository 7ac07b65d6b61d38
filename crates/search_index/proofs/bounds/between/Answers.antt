-- A range has bounds.
use Rattle.std.proofs.Common.{◌∙◌, ◌++◌, ◌∷◌, [], List, ℕ, ap}
use Rattle.query_text.specs.declared.term.Wanted.TheVariants as wanted
use Rattle.search_index.specs.declared.bounds.Bounds.{Bounds}
use Rattle.search_index.specs.Bounds.{IsBounded}
use Rattle.search_index.proofs.BoundsLemmas.{bounded_open, bounded_range, if_ok}
use Rattle.search_index.proofs.bounds.between.Goals as goal

pub returns-in-Some : goal.returns-in-Some
returns-in-Some c = if_ok _ (λ (b : Bounds). IsBounded c.args.field.now (wanted.Between c.args.range.now) b) c.at.result
    (λ (b : Bounds) h. bounded_range c.args.field.now c.in-Some.high c.args.range.now b c.in-Some.is (h.0 ∙ c.low_of-low.ensures) h.1 (h.2 ∙ ap (λ (z : List ℕ). z ++ 0 ∷ []) c.as_slice.ensures)) c.at.ensures

pub returns-in-None : goal.returns-in-None
returns-in-None c = if_ok _ (λ (b : Bounds). IsBounded c.args.field.now (wanted.Between c.args.range.now) b) c.from.result
    (λ (b : Bounds) h. bounded_open c.args.field.now c.args.range.now b (h.0 ∙ c.low_of-low.ensures) h.1) c.from.ensures
