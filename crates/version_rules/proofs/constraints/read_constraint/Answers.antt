use Rattle.std.proofs.Common.{◌∙◌, ap}
use Rattle.version_rules.specs.Constraints.{bare, behind_operator, operator_of, reads_constraint, sign_of}
use Rattle.version_rules.proofs.FaultLemmas.{no_such_operator, pessimistic_one_part}
use Rattle.version_rules.proofs.constraints.read_constraint.Goals as goal

pub returns-clause-no_such_operator : goal.returns-clause-no_such_operator
returns-clause-no_such_operator c =
    let text = bare c.args.text.now in
    rw (c.parse_constraint.ensures ∙ ap reads_constraint c.as_str.ensures.value) (no_such_operator (sign_of (operator_of text)) (behind_operator text))

pub returns-clause-pessimistic_one_part : goal.returns-clause-pessimistic_one_part
returns-clause-pessimistic_one_part c =
    let text = bare c.args.text.now in
    rw (c.parse_constraint.ensures ∙ ap reads_constraint c.as_str.ensures.value) (pessimistic_one_part (sign_of (operator_of text)) (behind_operator text))
