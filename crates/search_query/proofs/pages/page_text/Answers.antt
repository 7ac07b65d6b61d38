-- The page has just these rows.
use Rattle.std.proofs.Common.{◌≡◌, ◌∙◌, ◌++◌, List, ℕ, ap, codes, map}
use Rattle.doc_tree.specs.Doc.{words}
use Rattle.doc_tree.specs.Written.{text}
use Rattle.search_query.specs.Pages.{counted, with_commas}
use Rattle.search_query.proofs.PageLemmas.{nine, page_parts}
use Rattle.search_query.proofs.pages.page_text.Goals as goal

pub returns : goal.returns
returns c docs rows =
    let one : c.push.new.self.items ≡ codes "{" = c.in_ok-push.ensures.items ∙ ap (λ (z : List ℕ). z ++ codes "{") c.new-out.ensures.items in
    let two : c.add_text.new.out.items ≡ codes "{" ++ text (words (codes "rows")) = c.in_ok-add_text.ensures ∙ ap (λ (z : List ℕ). c.push.new.self.items ++ text (words z)) c.in_ok-from_str.ensures ∙ ap (λ (z : List ℕ). z ++ text (words (codes "rows"))) one in
    let three = c.in_ok-extend_from_slice.ensures.items ∙ ap (λ (z : List ℕ). z ++ codes ":[") two in
    let four = c.in_ok-add_rows.ensures ∙ ap (λ (z : List (List ℕ)). c.extend_from_slice.new.self.items ++ with_commas z) rows ∙ ap (λ (z : List ℕ). z ++ with_commas (map text docs)) three in
    let five = c.in_ok-extend_from_slice-2.ensures.items ∙ ap (λ (z : List ℕ). z ++ codes "],") four in
    let six = c.in_ok-add_count.ensures ∙ ap (λ (z : List ℕ). z ++ counted (codes "start") c.args.start) five in
    let seven = c.in_ok-push-2.ensures.items ∙ ap (λ (z : List ℕ). z ++ codes ",") six in
    let eight = c.in_ok-add_count-2.ensures ∙ ap (λ (z : List ℕ). z ++ counted (codes "total") c.args.total) seven in
    c.of.ensures ∙ c.in_ok-push-3.ensures.items ∙ ap (λ (z : List ℕ). z ++ codes "}") eight
    ∙ nine (codes "{") (text (words (codes "rows"))) (codes ":[") (with_commas (map text docs)) (codes "],") (counted (codes "start") c.args.start) (codes ",") (counted (codes "total") c.args.total) (codes "}")
    ∙ page_parts docs c.args.start c.args.total
