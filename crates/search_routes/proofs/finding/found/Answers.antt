-- The word is a name, which has no slash.
use Rattle.std.proofs.Common.{◌≡◌, ℕ, List, true, subst, sym, ◌∙◌}
use Rattle.object_finder.specs.Indexes.{is_plain}
use Rattle.search_routes.proofs.WordLemmas.{name_is_plain}
use Rattle.search_routes.proofs.finding.found.Goals as goal

pub find-requires-clause-plain : goal.find-requires-clause-plain
find-requires-clause-plain g c = subst (λ (word : List ℕ). is_plain word ≡ true) (sym (c.in_ok-copy-2.ensures ∙ c.as_text.ensures.value)) (name_is_plain c.args.word.now c.as_text.ensures.form)
