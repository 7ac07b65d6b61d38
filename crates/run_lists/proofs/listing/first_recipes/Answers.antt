use Rattle.std.proofs.Common.{None, arith}
use Rattle.run_lists.specs.declared.names.RecipeName.{RecipeName}
use Rattle.run_lists.specs.declared.walk.Run as code
use Rattle.run_lists.specs.Keys.{key_of, same_key}
use Rattle.run_lists.proofs.KeysLemmas.{same_key_equiv, noted_none, noted_more, noted_all, recipes_firsts}
use Rattle.run_lists.proofs.listing.first_recipes.Goals as goal

pub loop-run-init : goal.loop-run-init
loop-run-init c = noted_none same_key (λ (n : RecipeName). key_of n None) (λ (n : RecipeName). n) _ _ c.new-seen.ensures.empty c.new-names.ensures

pub loop-run-preserved : goal.loop-run-preserved
loop-run-preserved c =
    noted_more same_key same_key_equiv (λ (n : RecipeName). key_of n None) (λ (n : RecipeName). n) (λ (r : code.Run). r.name.now) c.args.runs.now c.loop-run.run-index c.run-item.result _ _ _ _
    (omega arith) c.run-item.is c.loop-run.invariant c.in_ok-add_recipe.ensures.keys c.in_ok-add_recipe.ensures.names

pub returns : goal.returns
returns c =
    recipes_firsts c.args.runs.now c.loop-run.names
    (noted_all same_key (λ (n : RecipeName). key_of n None) (λ (n : RecipeName). n) (λ (r : code.Run). r.name.now) c.args.runs.now c.loop-run.run-index _ _ (omega (arith, c.loop-run-test.false)) c.loop-run.invariant)
