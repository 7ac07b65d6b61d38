use Rattle.std.proofs.Common.{◌≡◌, List, [], ◌∷◌, ◌++◌, ap, subst, ◌∙◌}
use Rattle.dep_solver.specs.declared.conflicts.Conflict.{Conflict}
use Rattle.dep_solver.specs.declared.conflicts.Term.{Term}
use Rattle.dep_solver.specs.declared.search.Place.{Place}
use Rattle.dep_solver.specs.Conflicts.{Follows, PlacesHaveAll}
use Rattle.dep_solver.specs.Search.{Fits}
use Rattle.dep_solver.proofs.ConflictLemmas.{goes_by, goes_not, if_some}
use Rattle.dep_solver.proofs.search.Search.goes_on.Goals as goal

pub returns-in-Some-clause-keeps : goal.returns-in-Some-clause-keeps
returns-in-Some-clause-keeps c = c.in_ok-conflict.ensures.grows c.args.universe.now c.args.rules.now c.args.roots.now c.requires

pub returns-in-Some-clause-goes : goal.returns-in-Some-clause-goes
returns-in-Some-clause-goes c =
    let more : c.push.new.self.items ≡ c.args.self.now.places.items ++ c.args.place ∷ [] = c.in_ok-push.ensures.items ∙ ap (λ (ps : List Place). ps ++ c.args.place ∷ []) (c.in_ok-all.ensures.items ∙ c.as_slice-places.ensures.value) in
    goes_by c.have_all.result _ _
    (subst (λ (ps : List Place). Fits c.args.universe.now c.args.rules.now c.args.roots.now c.args.dead.now ps c.args.place.name.now c.args.place.release.now) c.as_slice-places.ensures.value (c.fits.ensures.0 c.if-not-fits.false))
    (λ has.
    goes_not c.args.universe.now c.args.rules.now c.args.roots.now c.args.dead.now c.args.self.now.places.items c.push.new.self.items c.args.place c.in-Some.conflict.terms.items more
    (if_some (λ (conflict : Conflict). Follows c.args.learner.now.store conflict.terms.items) c.in_ok-conflict.field-0 c.in-Some.conflict c.in-Some.is c.in_ok-conflict.ensures.found c.args.universe.now c.args.rules.now c.args.roots.now c.requires)
    (subst (λ (ts : List Term). PlacesHaveAll c.args.universe.now c.push.new.self.items ts) c.as_slice-in-Some-2.ensures.value
    (subst (λ (ps : List Place). PlacesHaveAll c.args.universe.now ps c.as_slice-in-Some-2.result.now) c.as_slice-in-Some.ensures.value (c.have_all.ensures has))))

pub returns-clause-keeps : goal.returns-clause-keeps
returns-clause-keeps c = c.in_ok-conflict.ensures.grows c.args.universe.now c.args.rules.now c.args.roots.now c.requires
