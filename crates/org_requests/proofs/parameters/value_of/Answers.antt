use Rattle.std.proofs.Common.{◌+◌, ◌-◌, ◌*◌, get_or, take, ap, sym, ◌∙◌}
use Rattle.std.proofs.lemmas.List.{take_all}
use Rattle.std.specs.Str.Parse.{digits_value}
use Rattle.version_rules.proofs.VersionLemmas.{value_more}
use Rattle.org_requests.proofs.NumberLemmas.{capped_first}
use Rattle.org_requests.specs.Parameters.{capped}
use Rattle.org_requests.proofs.parameters.value_of.Goals as goal

pub loop-digit-preserved : goal.loop-digit-preserved
loop-digit-preserved c =
    c.with_digit-number.ensures
    ∙ ap (λ n. capped (n * 10 + (get_or c.args.digits.now c.loop-digit.digit-index 0 - 48))) c.loop-digit.invariant
    ∙ capped_first (digits_value 10 (take c.loop-digit.digit-index c.args.digits.now)) (get_or c.args.digits.now c.loop-digit.digit-index 0 - 48)
    ∙ ap capped (sym (value_more c.args.digits.now c.loop-digit.digit-index c.requires c.loop-digit-test.true))

pub returns : goal.returns
returns c = c.loop-digit.invariant ∙ ap (λ ds. capped (digits_value 10 ds)) (take_all c.loop-digit.digit-index c.args.digits.now c.loop-digit-test.false)
