use Rattle.std.proofs.Common.{◌≡◌, take}
use Rattle.std.specs.Str.Parse.{digits_value}
use Rattle.org_requests.specs.Parameters.{capped}
use Rattle.org_requests.proofs.parameters.value_of.Given as goal

-- the number that the digits so far write
abbrev pub invariant-loop-digit : goal.invariant-loop-digit
invariant-loop-digit l = l.number ≡ capped (digits_value 10 (take l.digit-index l.digits))
