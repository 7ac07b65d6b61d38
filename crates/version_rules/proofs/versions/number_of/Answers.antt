use Rattle.std.proofs.Common.{Ok, arith, ap, sym, ◌∙◌, ◌≡◌}
use Rattle.std.specs.Str.Parse.{digits_value}
use Rattle.std.proofs.lemmas.List.{take_all}
use Rattle.version_rules.proofs.VersionLemmas.{value_more, reads_large, reads_small}
use Rattle.version_rules.proofs.versions.number_of.Goals as goal

pub returns-in_err-number : goal.returns-in_err-number
returns-in_err-number c =
    let large = reads_large c.args.digits.now c.loop-digit.digit-index c.requires c.loop-digit-test.true in
    grind arith

pub loop-digit-preserved : goal.loop-digit-preserved
loop-digit-preserved c =
    let more = value_more c.args.digits.now c.loop-digit.digit-index c.requires c.loop-digit-test.true in
    grind arith

pub returns : goal.returns
returns c =
    let all : c.loop-digit.number ≡ digits_value 10 c.args.digits.now = c.loop-digit.invariant.0 ∙ ap (digits_value 10) (take_all c.loop-digit.digit-index c.args.digits.now c.loop-digit-test.false) in
    ap Ok all ∙ sym (reads_small c.args.digits.now (omega arith))
