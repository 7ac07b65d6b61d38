-- One value has bounds that hold it alone.
use Rattle.std.proofs.Common.{◌∙◌, ◌++◌, ◌∷◌, [], List, ℕ, IfOk, sym, ap, subst}
use Rattle.query_text.specs.declared.term.Wanted.{Wanted}
use Rattle.query_text.specs.declared.term.Wanted.TheVariants as wanted
use Rattle.search_index.specs.declared.bounds.Bounds.{Bounds}
use Rattle.search_index.specs.Bounds.{IsBounded}
use Rattle.search_index.proofs.BoundsLemmas.{bounded_text, if_ok}
use Rattle.search_index.proofs.bounds.bounds_of.Goals as goal

pub returns-in-Equal : goal.returns-in-Equal
returns-in-Equal c = subst (λ (w : Wanted). IfOk c.at.result (IsBounded c.args.field.now w)) (sym c.in-Equal.is) (if_ok _ (λ (b : Bounds). IsBounded c.args.field.now (wanted.Equal c.in-Equal.text) b) c.at.result
    (λ (b : Bounds) h. bounded_text c.args.field.now c.in-Equal.text b (h.0 ∙ c.as_slice.ensures) h.1 (h.2 ∙ ap (λ (z : List ℕ). z ++ 0 ∷ []) c.as_slice-in-Equal.ensures)) c.at.ensures)
