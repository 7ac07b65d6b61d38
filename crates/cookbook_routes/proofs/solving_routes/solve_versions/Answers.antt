-- What was chosen under the rules of the environment is shown, or the refusal is told.
use Rattle.std.proofs.Common.{List, Option, Result, Ok, Err, refl, sym, ap, subst, ◌∙◌}
use Rattle.org_shelves.specs.Universes.{universe_of}
use Rattle.dep_solver.specs.declared.roots.Pin.{Pin}
use Rattle.doc_tree.specs.Doc.{Doc}
use Rattle.doc_tree.specs.declared.kind.Kind.TheVariants as kinds
use Rattle.org_core.specs.Contexts.{seen}
use Rattle.org_requests.specs.Refusals.{Tells}
use Rattle.org_core.specs.States.{cookbooks_of, object_in}
use Rattle.org_requests.specs.declared.refusals.Refusal.{Refusal}
use Rattle.cookbook_routes.specs.Solving as spec
use Rattle.cookbook_routes.proofs.SolvingLemmas.{shown_done, shown_looked, stopped_done, stopped_looked}
use Rattle.cookbook_routes.proofs.solving_routes.solve_versions.Goals as goal

pub returns-in-Ok-clause-done : goal.returns-in-Ok-clause-done
returns-in-Ok-clause-done g c =
    let due = λ (environment : Option Doc). spec.chosen (universe_of (cookbooks_of (seen c.args.context).state)) (spec.rules_of environment) c.args.roots.now in
    let found = c.look_up-environment.ensures.object ∙ ap (object_in (seen c.args.context).state kinds.Environment) c.as_str.ensures.value in
    shown_done (seen c.args.context) c.show_chosen.result c.as_slice.result.now _
    (sym (ap due found) ∙ c.in-Ok.ensures ∙ ap Ok (sym c.as_slice.ensures)) c.show_chosen.ensures.done

pub returns-in-Ok-clause-looked : goal.returns-in-Ok-clause-looked
returns-in-Ok-clause-looked g c =
    let due = λ (environment : Option Doc). spec.chosen (universe_of (cookbooks_of (seen c.args.context).state)) (spec.rules_of environment) c.args.roots.now in
    let found = c.look_up-environment.ensures.object ∙ ap (object_in (seen c.args.context).state kinds.Environment) c.as_str.ensures.value in
    shown_looked (seen c.args.context) c.show_chosen.result _ c.as_slice.result.now _ _ _ _
    (sym (ap due found) ∙ c.in-Ok.ensures ∙ ap Ok (sym c.as_slice.ensures)) refl c.look_up-environment.ensures.looked c.show_chosen.ensures.looked

pub returns-in-Err-clause-done : goal.returns-in-Err-clause-done
returns-in-Err-clause-done g c =
    let due = λ (environment : Option Doc). spec.chosen (universe_of (cookbooks_of (seen c.args.context).state)) (spec.rules_of environment) c.args.roots.now in
    let found = c.look_up-environment.ensures.object ∙ ap (object_in (seen c.args.context).state kinds.Environment) c.as_str.ensures.value in
    stopped_done (seen c.args.context) c.in-Err.stop _ (subst (λ (d : Result (List Pin) Refusal). Tells {T = List Pin} (Err c.in-Err.stop) d) (ap due found) c.in-Err.ensures)

pub returns-in-Err-clause-looked : goal.returns-in-Err-clause-looked
returns-in-Err-clause-looked g c =
    let due = λ (environment : Option Doc). spec.chosen (universe_of (cookbooks_of (seen c.args.context).state)) (spec.rules_of environment) c.args.roots.now in
    let found = c.look_up-environment.ensures.object ∙ ap (object_in (seen c.args.context).state kinds.Environment) c.as_str.ensures.value in
    stopped_looked (seen c.args.context) c.in-Err.stop _ _ _
    (subst (λ (d : Result (List Pin) Refusal). Tells {T = List Pin} (Err c.in-Err.stop) d) (ap due found) c.in-Err.ensures) c.look_up-environment.ensures.looked
