-- The fields so far, and then those of the recipes that are left.
use Rattle.std.proofs.Common.{◌≡◌, ◌++◌, map, drop}
use Rattle.resource_core.specs.Plans as spec
use Rattle.resource_core.specs.Titles.{pairs_by}
use Rattle.resource_core.proofs.recipes.all_resources.Given as goal

abbrev pub invariant-loop-recipe : goal.invariant-loop-recipe
invariant-loop-recipe l = map pairs_by l.all.items ++ spec.all_resources (drop l.recipe-index l.recipe-items) ≡ spec.all_resources l.recipe-items
