-- With the needs that are left, the names are those that all the needs give.
use Rattle.std.proofs.Common.{◌≡◌, map, drop, Bor}
use Rattle.doc_tree.specs.declared.name.Name.{Name}
use Rattle.dep_solver.specs.Walks.{with_needs}
use Rattle.dep_solver.proofs.search.add_needs.Given as goal

abbrev pub invariant-loop-need : goal.invariant-loop-need
invariant-loop-need l =
    with_needs (map (λ (n : Bor Name). n.now) l.names.items) (drop l.need-index l.needs)
    ≡ with_needs (map (λ (n : Bor Name). n.now) l.initial.names.items) l.needs
