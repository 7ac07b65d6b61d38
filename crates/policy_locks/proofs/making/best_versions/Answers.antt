use Rattle.std.proofs.Common.{ap, subst, ◌∙◌}
use Rattle.dep_solver.specs.Refusals.{Tells}
use Rattle.run_lists.specs.Asking.{names_in, pins_in}
use Rattle.policy_locks.proofs.MakeLemmas.{best_of}
use Rattle.policy_locks.proofs.making.best_versions.Goals as goal

pub returns-in-Ok-clause-best : goal.returns-in-Ok-clause-best
returns-in-Ok-clause-best c =
    let items = c.as_slice.ensures ∙ c.in_ok-items.ensures in
    best_of c.args.source.now c.args.universe.now c.in-Ok.solved.universe c.in-Ok.solved.rules c.in_ok-roots.roots c.in-Ok.solved.roots c.in-Ok.solved.chosen
    c.in-Ok.ensures.universe c.in-Ok.ensures.rules c.in-Ok.ensures.roots
    (record { names = c.in_ok-roots.ensures.names ∙ ap names_in items; pins = c.in_ok-roots.ensures.pins ∙ ap pins_in items })
    c.in-Ok.solved.best c.in-Ok.solved.in_order

pub returns-in-Err-Unsolvable-clause-fault : goal.returns-in-Err-Unsolvable-clause-fault
returns-in-Err-Unsolvable-clause-fault c =
    let items = c.as_slice.ensures ∙ c.in_ok-items.ensures in
    record {
      roots = c.in_ok-roots.roots;
      of_source = record { names = c.in_ok-roots.ensures.names ∙ ap names_in items; pins = c.in_ok-roots.ensures.pins ∙ ap pins_in items };
      why =
          subst (Tells c.args.universe.now c.args.source.now.cookbooks c.in_ok-roots.roots) c.in-Err-Unsolvable.field-0-is c.in-Err-Unsolvable.ensures.refusal;
    }
