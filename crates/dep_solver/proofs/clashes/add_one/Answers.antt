use Rattle.std.proofs.Common.{◌≡◌, List, [], ◌∷◌, ◌++◌, ap, subst, sym, ◌∙◌}
use Rattle.dep_solver.specs.declared.conflicts.Term.{Term}
use Rattle.dep_solver.specs.Conflicts.{IsConflict}
use Rattle.dep_solver.proofs.ClashLemmas.{one_conflict}
use Rattle.dep_solver.proofs.ConflictLemmas.{learned_more}
use Rattle.dep_solver.proofs.clashes.add_one.Goals as goal

pub returns : goal.returns
returns c =
    let term : Term = record { cookbook = c.args.cookbook; values = c.args.values } in
    let terms : c.push.new.self.items ≡ term ∷ [] = c.in_ok-push.ensures.items ∙ ap (λ (ts : List Term). ts ++ term ∷ []) c.new-terms.ensures.items in
    learned_more c.args._universe.now c.args._rules.now c.args._roots.now c.args.known.now.items c.push-2.new.self.items (record { terms = c.push.new.self }) c.requires.known
    (subst (λ (ts : List Term). IsConflict c.args._universe.now c.args._rules.now c.args._roots.now ts) (sym terms) (one_conflict c.args._universe.now c.args._rules.now c.args._roots.now c.args.cookbook c.args.values c.requires.out)) c.in_ok-push-2.ensures.items
