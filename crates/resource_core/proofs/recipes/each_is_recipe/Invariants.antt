-- The recipes that are left decide.
use Rattle.std.proofs.Common.{◌≡◌, drop}
use Rattle.std.specs.List.{list_all}
use Rattle.doc_tree.specs.Tree.{doc_of}
use Rattle.resource_core.specs.Plans.{is_recipe}
use Rattle.resource_core.proofs.recipes.each_is_recipe.Given as goal

abbrev pub invariant-loop-recipe : goal.invariant-loop-recipe
invariant-loop-recipe l = list_all (λ recipe. is_recipe (doc_of recipe)) l.recipes ≡ list_all (λ recipe. is_recipe (doc_of recipe)) (drop l.recipe-index l.recipes)
