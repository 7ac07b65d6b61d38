use Rattle.std.proofs.Common.{◌≡◌, drop}
use Rattle.yaml_subset.specs.Scalar.{all_digits}
use Rattle.yaml_subset.proofs.scalar.all_digits.Given as goal

abbrev pub invariant-loop-byte : goal.invariant-loop-byte
invariant-loop-byte l = all_digits l.radix (drop l.byte-index l.text) ≡ all_digits l.radix l.text
