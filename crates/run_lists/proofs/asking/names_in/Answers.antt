use Rattle.std.proofs.Common.{option_map, option_copied, sym, ap, subst, ◌∙◌}
use Rattle.std.specs.List.{IsDistinct}
use Rattle.dep_solver.specs.Names.{same_name}
use Rattle.run_lists.specs.declared.names.RecipeName.{RecipeName}
use Rattle.run_lists.proofs.AskingLemmas.{distinct_none, named_more, unnamed_more}
use Rattle.run_lists.proofs.asking.names_in.Goals as goal
use Rattle.run_lists.proofs.asking.names_in.Goals.{in-Some+in_ok-add_name, in_default}

pub loop-item-init : goal.loop-item-init
loop-item-init c = (c.new-names.ensures, subst (IsDistinct same_name) (sym c.new-names.ensures) distinct_none)

pub loop-item-preserved : goal.loop-item-preserved
loop-item-preserved c =
    elim c.match-recipe.branch [
      | in-Some+in_ok-add_name w ↦
          named_more c.args.items.now c.loop-item.item-index c.item-item.result c.loop-item.names c.match-recipe.names w.in-Some.recipe.now.cookbook c.loop-item-test.true c.item-item.is
          (ap (option_map (λ (recipe : RecipeName). recipe.cookbook)) (sym c.recipe.ensures ∙ ap option_copied w.in-Some.is)) c.loop-item.invariant (w.names-is ∙ w.in_ok-add_name.ensures)
      | in_default w ↦
          unnamed_more c.args.items.now c.loop-item.item-index c.item-item.result c.loop-item.names c.match-recipe.names c.loop-item-test.true c.item-item.is
          (ap (option_map (λ (recipe : RecipeName). recipe.cookbook)) (sym c.recipe.ensures ∙ ap option_copied w.in_default.is)) c.loop-item.invariant w.names-is
    ]
