-- The page is that of what the finder found and the caller may read, in the index of the word.
use Rattle.std.proofs.Common.{IfOk, Ok, ap, subst, ◌∙◌}
use Rattle.object_finder.specs.Indexes.{index_of}
use Rattle.org_core.specs.Contexts.{seen}
use Rattle.org_core.specs.Outcomes.{Decided, IsAsDecided}
use Rattle.search_routes.proofs.FindingLemmas.{page_is}
use Rattle.search_routes.proofs.finding.find.Goals as goal

pub returns-clause-done : goal.returns-clause-done
returns-clause-done g c =
    subst (λ (decided : Decided). IfOk c.show_page.result (λ p. IsAsDecided (Ok p) decided.answer))
    (page_is (seen c.args.context) c.args.search.now c.in_ok-index.index c.in_ok-names.names c.as_slice.result.now (c.in_ok-index.ensures ∙ ap index_of c.as_text.ensures.value) c.in_ok-names.ensures.found
    (c.as_slice.ensures ∙ c.in_ok-readable.ensures))
    c.show_page.ensures.done
