use Rattle.std.proofs.Common.{sym, ◌∙◌}
use Rattle.yaml_subset.proofs.LiteralLemmas.{blank_is}
use Rattle.yaml_subset.proofs.literal.add.Goals as goal

pub returns-then-is_blank : goal.returns-then-is_blank
returns-then-is_blank c =
    blank_is c.args.line.now c.args.held _ (sym c.is_marker.ensures ∙ c.if-is_marker.false) (sym c.is_blank.ensures ∙ c.if-is_blank.true) c.in_ok-add_blank.ensures
