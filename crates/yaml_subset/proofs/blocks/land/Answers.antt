-- The mark goes into the block that it doesn't close.
use Rattle.std.proofs.Common.{◌≡◌, IfOk, Option, sym, ◌∙◌, subst}
use Rattle.std.specs.Bool.{then_some}
use Rattle.yaml_subset.specs.declared.blocks.Blocks.{Blocks}
use Rattle.yaml_subset.specs.declared.blocks.Blocks.TheVariants.{Within}
use Rattle.yaml_subset.proofs.MachineLemmas.{land_stops}
use Rattle.yaml_subset.proofs.blocks.land.Goals as goal

pub returns : goal.returns
returns c =
    subst (λ (o : Option Blocks). IfOk c.place.result (λ goes. then_some goes (Within c.place.new.within) ≡ o))
    (sym (land_stops _ c.closing.within.due c.closing.within.frame c.closing.within.below (sym c.closes.ensures ∙ c.closing-test.false)) ∙ c.closing.invariant) c.place.ensures
