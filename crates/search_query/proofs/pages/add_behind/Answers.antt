-- One row more.
use Rattle.std.proofs.Common.{◌∙◌, ◌++◌, ◌∷◌, [], List, ℕ, ap, codes, sym, take}
use Rattle.std.proofs.lemmas.List.{append_assoc, take_more}
use Rattle.search_query.specs.Pages.{behind}
use Rattle.search_query.proofs.PageLemmas.{behind_more}
use Rattle.search_query.proofs.pages.add_behind.Goals as goal

pub loop-row-preserved : goal.loop-row-preserved
loop-row-preserved c =
    let out : List ℕ = c.args.out.now.items in
    let rows : List (List ℕ) = c.args.rows.now in
    let i : ℕ = c.loop-row.row-index in
    let row : List ℕ = c.row-item.result in
    c.in_ok-extend_from_slice.ensures.items
    ∙ ap (λ (z : List ℕ). c.push.new.self.items ++ z) c.as_slice.ensures
    ∙ ap (λ (z : List ℕ). z ++ row) (c.in_ok-push.ensures.items ∙ ap (λ (z : List ℕ). z ++ codes ",") c.loop-row.invariant ∙ append_assoc out (behind (take i rows)) (codes ","))
    ∙ append_assoc out (behind (take i rows) ++ codes ",") row
    ∙ ap (λ (z : List ℕ). out ++ z) (sym (behind_more rows i row (take_more rows i row c.loop-row-test.true ∙ ap (λ (z : List ℕ). take i rows ++ z ∷ []) (sym c.row-item.is))))
