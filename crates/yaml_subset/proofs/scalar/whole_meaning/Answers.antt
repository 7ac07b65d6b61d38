use Rattle.std.proofs.Common.{ap₂, sym, ◌∙◌}
use Rattle.yaml_subset.specs.Scalar.{decimal_meaning}
use Rattle.yaml_subset.proofs.ScalarLemmas.{not_zero}
use Rattle.yaml_subset.proofs.scalar.whole_meaning.Goals as goal

pub returns-then-first-ne48 : goal.returns-then-first-ne48
returns-then-first-ne48 c =
    c.decimal_meaning-then-first-ne48.ensures ∙ ap₂ decimal_meaning c.is_minus-then-first-ne48.ensures c.unsigned-then-first-ne48.ensures
    ∙ sym (not_zero c.args.text.now c.if-first-ne48.true)
