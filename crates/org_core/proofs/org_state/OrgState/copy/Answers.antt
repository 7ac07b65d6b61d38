-- The parts are equal, so the state is.
use Rattle.std.proofs.Common.{◌∙◌, sym, ap, subst}
use Rattle.org_core.proofs.StateLemmas.{AreCopies, same_nobody, same_state}
use Rattle.org_core.specs.Conditions.{MeetsConditions}
use Rattle.org_core.specs.States.{state_in}
use Rattle.org_core.proofs.org_state.OrgState.copy.Goals as goal

pub invariant_of-result : goal.invariant_of-result
invariant_of-result c =
    let same : AreCopies c.self.inside.objects c.in_ok-objects.objects c.self.inside.groups c.in-Ok.groups c.self.inside.shelves c.in-Ok.shelves =
    record { objects = c.in_ok-objects.ensures.objects; lists = c.in_ok-objects.ensures.lists; membership = c.in-Ok.ensures.groups; shelved = c.in-Ok.ensures.shelves } in (
      same_nobody c.self.inside.there _ _ _ _ _ _ same c.self.invariant.0,
      subst MeetsConditions (sym (same_state c.self.inside.there _ _ _ _ _ _ same)) c.self.invariant.1,
    )

pub returns-in-Ok-clause-state : goal.returns-in-Ok-clause-state
returns-in-Ok-clause-state c =
    let same : AreCopies c.self.inside.objects c.in_ok-objects.objects c.self.inside.groups c.in-Ok.groups c.self.inside.shelves c.in-Ok.shelves =
    record { objects = c.in_ok-objects.ensures.objects; lists = c.in_ok-objects.ensures.lists; membership = c.in-Ok.ensures.groups; shelved = c.in-Ok.ensures.shelves } in
    same_state c.self.inside.there _ _ _ _ _ _ same ∙ ap state_in c.self.view_is
