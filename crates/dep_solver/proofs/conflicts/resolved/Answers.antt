use Rattle.std.proofs.Common.{◌≡◌, ◌<◌, ℕ, Vec, Global, List, ap, subst, bit_or, ◌∙◌}
use Rattle.std.specs.Int.{bit_at}
use Rattle.dep_solver.specs.declared.conflicts.Term.{Term}
use Rattle.dep_solver.specs.Conflicts.{AddsOthers, HasAll, Values}
use Rattle.dep_solver.proofs.ConflictLemmas.{ends_full, ends_pushed, resolves}
use Rattle.dep_solver.proofs.conflicts.resolved.Goals.{then-values+in_ok-push, else-values}
use Rattle.dep_solver.proofs.conflicts.resolved.Goals as goal

pub returns : goal.returns
returns c =
    let values : ℕ = bit_or c.values_of.result c.values_of-2.result in
    let second : List Term = c.add_others.new.terms.items in
    let ends : (taken : Values) → ((index : ℕ) → taken index < 64) → HasAll taken c.if-values.terms.items → HasAll taken second × (bit_at values (taken c.args.cookbook) ≡ 1) =
    elim c.if-values.branch [
      | then-values+in_ok-push w ↦ ends_pushed second c.if-values.terms.items c.args.cookbook values (ap (λ (v : Vec Term Global). v.items) w.terms-is ∙ w.in_ok-push.ensures.items)
      | else-values w ↦ ends_full second c.if-values.terms.items c.args.cookbook values (ap (λ (v : Vec Term Global). v.items) w.terms-is) w.if-values.false
    ] in
    resolves c.args.one.now c.args.other.now c.copy_others.new.terms.items second c.if-values.terms.items c.args.cookbook c.values_of.result c.values_of-2.result
    (subst (λ (ts : List Term). AddsOthers c.args.one.now c.args.cookbook ts c.copy_others.new.terms.items) c.new-terms.ensures.items c.in_ok-copy_others.ensures) c.in_ok-add_others.ensures
    c.values_of.ensures c.values_of-2.ensures ends
