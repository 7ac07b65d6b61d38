use Rattle.std.proofs.Common.{sym}
use Rattle.run_lists.proofs.SpellingLemmas.{recipe_of-split, recipe_of-whole}
use Rattle.run_lists.proofs.spelling.recipe_of.Goals as goal

pub returns-in-Some : goal.returns-in-Some
returns-in-Some c = sym (recipe_of-split c.args.name.now c.in-Some.cookbook.now c.in-Some.recipe.now c.in-Some.ensures.cases)

pub returns-in-None : goal.returns-in-None
returns-in-None c = sym (recipe_of-whole c.args.name.now c.in-None.ensures.cases)
