use Rattle.std.proofs.Common.{arith, sym, ◌∙◌}
use Rattle.doc_tree.specs.Tree.{pair_of}
use Rattle.knife_errands.proofs.ListingLemmas.{cookbooks_more}
use Rattle.knife_errands.proofs.bodies.cookbooks_of.Goals as goal

pub loop-field-preserved : goal.loop-field-preserved
loop-field-preserved c =
    cookbooks_more pair_of _ _ c.loop-field.field-index c.field-item.result _ _ c.in-Some.versions (omega arith) c.field-item.is (sym c.in_ok-versions_at.ensures ∙ c.in-Some.is) c.in_ok-add_versions-in-Some.ensures c.loop-field.invariant
