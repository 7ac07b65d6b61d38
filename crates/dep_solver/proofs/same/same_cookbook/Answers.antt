use Rattle.std.proofs.Common.{ap, sym, ◌∙◌}
use Rattle.dep_solver.specs.declared.universe.Cookbook.{Cookbook}
use Rattle.dep_solver.proofs.SameLemmas.{same_cookbook}
use Rattle.dep_solver.proofs.WalkLemmas.{name_from_same}
use Rattle.dep_solver.proofs.same.same_cookbook.Goals as goal

pub returns-then-eq : goal.returns-then-eq
returns-then-eq c = (
  λ h. same_cookbook c.args.one.now c.args.other.now (name_from_same c.args.one.now.name c.args.other.now.name (sym c.if-eq.ensures))
      (sym c.as_slice.ensures ∙ c.same_releases.ensures.0 h ∙ c.as_slice-then-eq.ensures),
  λ e. c.same_releases.ensures.1 (c.as_slice.ensures ∙ ap (λ (z : Cookbook). z.releases) e ∙ sym c.as_slice-then-eq.ensures),
)
