use Rattle.std.proofs.Common.{◌≡◌, ◌≤◌, drop}
use Rattle.http_wire.proofs.FieldLemmas.{number_after}
use Rattle.http_wire.proofs.fields.digits.Given as goal

-- the digits so far give the number, and with those to come the same as all
abbrev pub invariant-loop-byte : goal.invariant-loop-byte
invariant-loop-byte l = record {
  small : l.number ≤ 67108864;
  rest : number_after l.number (drop l.byte-index l.value) ≡ number_after 0 l.value;
}
