-- The keys are those of the body.
use Rattle.std.proofs.Common.{map, sym, ap, subst, ◌∙◌}
use Rattle.std.specs.Map.{keys_of}
use Rattle.doc_tree.specs.Tree.{pair_of}
use Rattle.doc_tree.specs.Valid.{InOrder}
use Rattle.search_query.proofs.PartialLemmas.{keys_of-wanted}
use Rattle.search_query.proofs.partial.Partial.of_fields.Goals as goal

pub invariant_of-result : goal.invariant_of-result
invariant_of-result c =
    subst InOrder (sym (keys_of-wanted (map pair_of c.as_slice.result.now) c.in_ok-wanted.wanted c.in_ok-wanted.ensures ∙ ap keys_of c.as_slice.ensures.value)) c.as_slice.ensures.order

pub returns-clause-order : goal.returns-clause-order
returns-clause-order c = invariant_of-result c
