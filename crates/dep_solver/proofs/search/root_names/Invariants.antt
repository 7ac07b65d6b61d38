-- The names so far are the first of the roots.
use Rattle.std.proofs.Common.{◌≡◌, map, take, Bor}
use Rattle.doc_tree.specs.declared.name.Name.{Name}
use Rattle.dep_solver.proofs.search.root_names.Given as goal

abbrev pub invariant-loop-name : goal.invariant-loop-name
invariant-loop-name l = map (λ (n : Bor Name). n.now) l.names.items ≡ take l.name-index l.roots.names
