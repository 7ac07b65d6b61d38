-- The universe and the rules are those of the organisation and of the environment.
use Rattle.std.proofs.Common.{List, Result, ap, subst, ◌∙◌}
use Rattle.org_shelves.specs.Universes.{universe_of}
use Rattle.dep_solver.specs.declared.roots.Pin.{Pin}
use Rattle.org_requests.specs.Refusals.{Tells}
use Rattle.org_requests.specs.declared.refusals.Refusal.{Refusal}
use Rattle.cookbook_routes.specs.Solving as spec
use Rattle.cookbook_routes.proofs.solving_routes.versions_for.Goals as goal

pub returns : goal.returns
returns c =
    subst (λ (due : Result (List Pin) Refusal). Tells c.chosen.result due)
    (λ i. spec.chosen ((c.in_ok-universe.ensures ∙ ap universe_of c.cookbooks.ensures) i) (c.in_ok-rules.ensures i) c.args.roots.now)
    c.chosen.ensures
