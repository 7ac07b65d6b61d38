-- A file is named by a version, or else by an artifact.
use Rattle.std.proofs.Common.{◌≡◌, ◌∙◌, ◌||◌, sym, ap}
use Rattle.doc_tree.specs.Text.{text_cmp}
use Rattle.shelves.specs.Shelves.{shelves_of}
use Rattle.version_rules.specs.Order.{version_cmp}
use Rattle.org_shelves.proofs.NamedLemmas.{seen_names}
use Rattle.org_shelves.specs.ShelfMoves.{store_names}
use Rattle.org_shelves.proofs.naming.is_named.Goals as goal

pub returns-then-any_names : goal.returns-then-any_names
returns-then-any_names c =
    let s = c.args.shelves.now.shelved in
    let sum = c.args.sum.now in
    let versions : c.any_names.result ≡ store_names sum s.cookbooks =
    c.any_names.ensures ∙ seen_names c.shelves.result.now (shelves_of version_cmp c.cookbooks.result.now) sum c.shelves.ensures.shelves ∙ ap (store_names sum) c.cookbooks.ensures in
    c.if-any_names.true ∙ ap (λ b. b || store_names sum s.artifacts) (sym c.if-any_names.true ∙ versions)

pub returns-else-any_names : goal.returns-else-any_names
returns-else-any_names c =
    let s = c.args.shelves.now.shelved in
    let sum = c.args.sum.now in
    let versions : c.any_names.result ≡ store_names sum s.cookbooks =
    c.any_names.ensures ∙ seen_names c.shelves.result.now (shelves_of version_cmp c.cookbooks.result.now) sum c.shelves.ensures.shelves ∙ ap (store_names sum) c.cookbooks.ensures in
    let artifacts : c.any_names-else-any_names.result ≡ store_names sum s.artifacts =
    c.any_names-else-any_names.ensures
    ∙ seen_names c.shelves-else-any_names.result.now (shelves_of text_cmp c.artifacts.result.now) sum c.shelves-else-any_names.ensures.shelves
    ∙ ap (store_names sum) c.artifacts.ensures in
    artifacts ∙ ap (λ b. b || store_names sum s.artifacts) (sym c.if-any_names.false ∙ versions)
