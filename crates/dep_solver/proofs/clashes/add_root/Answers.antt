use Rattle.std.proofs.Common.{◌≡◌, List, [], ◌∷◌, ◌++◌, ap, subst, sym, ◌∙◌}
use Rattle.dep_solver.specs.declared.conflicts.Term.{Term}
use Rattle.dep_solver.specs.Conflicts.{IsConflict}
use Rattle.dep_solver.proofs.ClashLemmas.{root_conflict}
use Rattle.dep_solver.proofs.ConflictLemmas.{learned_more}
use Rattle.dep_solver.proofs.clashes.add_root.Goals as goal

pub returns : goal.returns
returns c =
    let term : Term = record { cookbook = c.in-Some.index; values = 1 } in
    let terms : c.push.new.self.items ≡ term ∷ [] = c.in_ok-push.ensures.items ∙ ap (λ (ts : List Term). ts ++ term ∷ []) c.new-terms.ensures.items in
    learned_more c.args.universe.now c.args._rules.now c.args.roots.now c.args.known.now.items c.push-2.new.self.items (record { terms = c.push.new.self }) c.requires.known
    (subst (λ (ts : List Term). IsConflict c.args.universe.now c.args._rules.now c.args.roots.now ts) (sym terms) (root_conflict c.args.universe.now c.args._rules.now c.args.roots.now c.in-Some.index c.args.root.now c.in-Some.ensures c.requires.root)) c.in_ok-push-2.ensures.items
