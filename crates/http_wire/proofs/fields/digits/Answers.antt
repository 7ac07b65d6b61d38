use Rattle.std.proofs.Common.{◌∙◌}
use Rattle.http_wire.proofs.FieldLemmas.{digits_end, digits_stop}
use Rattle.http_wire.proofs.fields.digits.Goals as goal

-- a byte that is no digit, or one too many
pub returns-in_err-number : goal.returns-in_err-number
returns-in_err-number c =
    c.from_residual.ensures
    ∙ digits_stop c.loop-byte.number c.loop-byte.byte-index c.args.value.now c.loop-byte-test.true c.in_err-number.ensures c.loop-byte.invariant.rest

-- each byte was a digit
pub returns : goal.returns
returns c = digits_end c.loop-byte.number c.loop-byte.byte-index c.args.value.now c.loop-byte-test.false c.loop-byte.invariant.rest
