use Rattle.std.proofs.Common.{◌≡◌, ◌<◌, ◌^◌, drop, true}
use Rattle.std.specs.Str.Parse.{digits_value, digits_value_after}
use Rattle.yaml_subset.specs.Scalar.{all_digits}
use Rattle.yaml_subset.proofs.scalar.digits_value.Given as goal

abbrev pub invariant-loop-byte : goal.invariant-loop-byte
invariant-loop-byte l =
    (digits_value_after l.radix l.value (drop l.byte-index l.text) ≡ digits_value l.radix l.text) × (l.value < 2 ^ 68) × (all_digits l.radix (drop l.byte-index l.text) ≡ true)
