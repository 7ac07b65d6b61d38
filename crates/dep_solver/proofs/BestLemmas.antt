-- What is kept with a solution: it is what the function gives.
use Rattle.std.proofs.Common.{◌≡◌, ◌∙◌, List, Some, map}
use Rattle.std.proofs.Math.Logic.{∥∥₁_elim}
use Rattle.std.proofs.Props.{props}
use Rattle.std.specs.List.Sorted.{IsStrictlySortedBy}
use Rattle.doc_tree.specs.Text.{text_cmp}
use Rattle.dep_solver.specs.declared.roots.Pin.{Pin}
use Rattle.dep_solver.specs.declared.roots.Roots.{Roots}
use Rattle.dep_solver.specs.declared.rules.EnvRules.{EnvRules}
use Rattle.dep_solver.specs.declared.solved.Solved.{Solved}
use Rattle.dep_solver.specs.declared.universe.Universe.{Universe}
use Rattle.dep_solver.specs.Best.{IsBest}
use Rattle.dep_solver.specs.Chosen.{best_of}
use Rattle.dep_solver.specs.Solutions.{choice_of}
use Rattle.dep_solver.proofs.ChosenLemmas.{best_of_from, best_of_to}

pub is_best : (s : Solved) → best_of s.universe s.rules s.roots ≡ Some s.chosen
is_best s =
    let once : IsProp (best_of s.universe s.rules s.roots ≡ Some s.chosen) = hlevel props in
    ∥∥₁_elim s.best once (λ best. best_of_to s.universe s.rules s.roots s.chosen (best, s.in_order))

-- what the function gives is the best solution of the copies too
pub kept_best : (universe copy : Universe) (rules own : EnvRules) (roots same : Roots) (pins : List Pin) → copy ≡ universe → own ≡ rules → same ≡ roots → best_of universe rules roots ≡ Some pins → IsBest copy own same (choice_of pins)
kept_best universe copy rules own roots same pins a b c e = (best_of_from copy own same pins ((λ i. best_of (a i) (b i) (c i)) ∙ e)).0

-- and its names rise
pub kept_in_order : (universe : Universe) (rules : EnvRules) (roots : Roots) (pins : List Pin) → best_of universe rules roots ≡ Some pins → IsStrictlySortedBy text_cmp (map (λ (pin : Pin). pin.name) pins)
kept_in_order universe rules roots pins e = (best_of_from universe rules roots pins e).1
