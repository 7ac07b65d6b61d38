-- What is cut off are spaces, so a text is left.
use Rattle.std.proofs.Common.{◌≤◌, ℕ, List, IsUtf8, sym, subst, arith}
use Rattle.yaml_subset.specs.Signs.{indent}
use Rattle.yaml_subset.proofs.Utf8Lemmas.{behind_indent}
use Rattle.yaml_subset.proofs.literal.add_full.Goals as goal

pub unreachable-requires : goal.unreachable-requires
unreachable-requires c =
    let deep : c.cut_at-count.result ≤ indent c.args.line.now = omega (arith, c.indent.ensures) in
    c.in-Err.ensures.cases.0 (subst (λ (t : List ℕ). IsUtf8 t) (sym c.behind.ensures) (behind_indent c.cut_at-count.result c.args.line.now deep c.requires))
