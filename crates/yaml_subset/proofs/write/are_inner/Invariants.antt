use Rattle.std.proofs.Common.{◌≡◌, drop}
use Rattle.std.specs.List.{list_all}
use Rattle.yaml_subset.specs.Written.{is_inner}
use Rattle.yaml_subset.proofs.write.are_inner.Given as goal

abbrev pub invariant-loop-byte : goal.invariant-loop-byte
invariant-loop-byte l = list_all is_inner (drop l.byte-index l.bytes) ≡ list_all is_inner l.bytes
